-- The link types that are read, by their numbers (the registry of LINKTYPE values).
use Rattle.std.specs.Prelude.{◌≡◌, ◌==◌, ◌⊎◌, ℕ, Option, Some, None, if◌then◌else◌}
use Rattle.link_types.specs.declared.link.LinkType.{LinkType}
use Rattle.link_types.specs.declared.link.LinkType.TheVariants.{Ethernet, RawIp, LinuxCooked}

-- The number of a link type.
abbrev pub number_of : LinkType → ℕ
number_of Ethernet = 1
number_of RawIp = 101
number_of LinuxCooked = 113

-- The link type with this number; none for any other number.
abbrev pub link_of : ℕ → Option LinkType
link_of number =
    if number == 1 then Some Ethernet
    else if number == 101 then Some RawIp
    else if number == 113 then Some LinuxCooked
    else None

-- The number is that of a link type that is read.
abbrev pub IsKnownLink : ℕ → Type 0
IsKnownLink number = (number ≡ 1) ⊎ ((number ≡ 101) ⊎ (number ≡ 113))
