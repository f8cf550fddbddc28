-- Bytes as hexadecimal digits, in capitals.
use Rattle.std.specs.Prelude.{cond, List, [], ◌∷◌, ◌++◌, ℕ, ◌+◌, ◌-◌, ◌/◌, ◌%◌, ltb, length, take, drop, flat_map, codes, decimal, nat_le, ◌==◌, if◌then◌else◌}

abbrev pub digit_of : ℕ → ℕ
digit_of n = cond (ltb n 10) (48 + n) (55 + n)

abbrev pub hex_of : ℕ → List ℕ
hex_of b = digit_of (b / 16) ∷ digit_of (b % 16) ∷ []

-- bytes with a space between them
abbrev pub spaced : List ℕ → List ℕ
spaced [] = []
spaced (b ∷ rest) = hex_of b ++ flat_map (λ c. codes " " ++ hex_of c) rest

-- of many bytes the first eight and the last two, and how many they are
abbrev pub ends_of : List ℕ → List ℕ
ends_of bytes = spaced (take 8 bytes) ++ codes " .. " ++ spaced (drop (length bytes - 2) bytes) ++ codes " (" ++ decimal (length bytes) ++ codes " bytes)"

-- all of the bytes, or of more than 24 their ends
abbrev pub excerpt : List ℕ → List ℕ
excerpt bytes = if length bytes == 0 then codes "no bytes" else (if nat_le (length bytes) 24 then spaced bytes else ends_of bytes)
