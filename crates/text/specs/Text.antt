-- Texts as lists of bytes.
use mathlib.Core.List as List
use Rattle.std.specs.Prelude.{ℕ}
use Prim.Native.Char.{code}
use Prim.Native.String.{String, [], ◌∷◌}

-- The bytes of a text.
abbrev pub text : String → List.List ℕ
text [] = List.[]
text (c ∷ s) = List.◌∷◌ (code c) (text s)
