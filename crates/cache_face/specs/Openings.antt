-- Which caches were opened.
use Rattle.std.specs.Prelude.{ℕ}
use Rattle.cache_face.specs.declared.opened.Opened.{Opened}
use Rattle.cache_face.specs.declared.opened.Opened.TheVariants.{Nothing, One, Several}

-- Those that were opened, and one more of so many sets and seats.
abbrev pub opened_with : Opened → ℕ → ℕ → Opened
opened_with Nothing sets seats = One sets seats
opened_with (One _ _) sets seats = Several
opened_with Several sets seats = Several
