-- What is written: a line for each ask, and a line of the total.
use Rattle.std.specs.Prelude.{ℕ, List, ◌++◌, flat_map, codes, decimal}
use Rattle.watch_program.specs.declared.answer.Answer.{Answer}
use Rattle.watch_program.specs.declared.answer.Answer.TheVariants.{Held, Absent, Lost}

-- A space and a number.
abbrev pub number_text : ℕ → List ℕ
number_text number = codes " " ++ decimal number

-- The line of an ask. Of a flow that was held it has the packets, the octets, and the times of the earliest and of the
-- latest packet in milliseconds.
unfoldable pub line_of : Answer → List ℕ
line_of (Held flow) =
    codes "held"
    ++ (number_text flow.packets
    ++ (number_text flow.octets ++ (number_text flow.first ++ (number_text flow.last ++ codes "\n"))))
line_of Absent = codes "absent\n"
line_of Lost = codes "lost\n"

-- The line of the total: packets and octets.
unfoldable pub total_line : ℕ → ℕ → List ℕ
total_line packets octets = codes "total" ++ (number_text packets ++ (number_text octets ++ codes "\n"))

-- The whole text.
abbrev pub text_of : List Answer → ℕ → ℕ → List ℕ
text_of answers packets octets = flat_map line_of answers ++ total_line packets octets
