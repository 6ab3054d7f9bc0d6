-- What commands that are done report: lines of a name and a number.
use Rattle.std.specs.Prelude.{ℕ, List, ◌++◌, codes, decimal, slice_index}
use Rattle.capture_tally.specs.declared.tally.Tally.{Tally}

-- A line of a name and a number.
unfoldable pub count_line : List ℕ → ℕ → List ℕ
count_line name count = name ++ (codes " " ++ (decimal count ++ codes "\n"))

-- The lines of the ignored records, by cause.
unfoldable pub ignored_lines : List ℕ → List ℕ
ignored_lines ignored =
    count_line (codes "not-ip") (slice_index ignored 0) ++ (count_line (codes "short") (slice_index ignored 1)
    ++ (count_line (codes "bad-header") (slice_index ignored 2)
    ++ (count_line (codes "short-transport") (slice_index ignored 3)
    ++ count_line (codes "bad-time") (slice_index ignored 4))))

-- The summary of a metered capture, eleven lines: the numbers of its tally, how many records of flows were written, in
-- how many messages, and how many bytes of the capture are left behind its last record.
unfoldable pub summary : Tally → ℕ → ℕ → ℕ → List ℕ
summary tally flows messages tail =
    count_line (codes "captured") tally.captured ++ count_line (codes "accepted") tally.accepted
    ++ ignored_lines tally.ignored ++ count_line (codes "octets") tally.octets
    ++ count_line (codes "flows") flows ++ count_line (codes "messages") messages ++ count_line (codes "tail") tail
