-- A field of a word: some bits of it, from a lowest bit on.
use Rattle.std.specs.Prelude.{ℕ, ◌+◌, ◌*◌, ◌/◌, ◌%◌, ◌^◌}

-- `bits low n w`: the n bits of w from bit low on
abbrev pub bits : ℕ → ℕ → ℕ → ℕ
bits low n w = w / 2 ^ low % 2 ^ n

-- a tag of 4 bits comes first, then the other 60
abbrev pub tagged : ℕ → ℕ → ℕ
tagged tag rest = tag * 2 ^ 60 + rest

abbrev pub tag_of : ℕ → ℕ
tag_of = bits 60 4
