-- How numbers and brackets are spelled: nested brackets, one space between parts and none elsewhere.
use Rattle.std.specs.Prelude.{cond, List, [], ◌∷◌, ◌++◌, ℕ, zero, suc, ◌+◌, ◌/◌, ◌%◌, ltb}
use Rattle.text.specs.Text.{text}

-- A number in decimal digits, with no leading zero; k bounds their count.
unfoldable pub digits_to : ℕ → ℕ → List ℕ
digits_to zero n = []
digits_to (suc k) n = cond (ltb n 10) ((48 + n) ∷ []) (digits_to k (n / 10) ++ ((48 + n % 10) ∷ []))

unfoldable pub digits : ℕ → List ℕ
digits n = digits_to (suc n) n

-- Further parts, a space before each, and the closing bracket.
abbrev pub ending : List (List ℕ) → List ℕ
ending [] = text ")"
ending (p ∷ ps) = text " " ++ (p ++ ending ps)

-- Parts, a space between two, and the closing bracket.
abbrev pub inside : List (List ℕ) → List ℕ
inside [] = text ")"
inside (p ∷ ps) = p ++ ending ps

-- Parts in brackets.
abbrev pub brackets : List (List ℕ) → List ℕ
brackets ps = text "(" ++ inside ps
