-- Numbers in bytes, low byte first. A byte past the end is 0. Assumes nothing.
use Rattle.std.specs.Prelude.{ℕ, zero, suc, ◌+◌, ◌*◌, List, [], ◌∷◌, slice_index}

abbrev pub byte : List ℕ → ℕ → ℕ
byte bs at = slice_index bs at

-- the n bytes from a place on
abbrev pub bytes_from : ℕ → List ℕ → ℕ → List ℕ
bytes_from zero bs at = []
bytes_from (suc n) bs at = byte bs at ∷ bytes_from n bs (at + 1)

abbrev pub two : List ℕ → ℕ → ℕ
two bs at = byte bs at + byte bs (at + 1) * 256

abbrev pub four : List ℕ → ℕ → ℕ
four bs at = byte bs at + byte bs (at + 1) * 256 + byte bs (at + 2) * 65536 + byte bs (at + 3) * 16777216

abbrev pub eight : List ℕ → ℕ → ℕ
eight bs at = four bs at + four bs (at + 4) * 4294967296
