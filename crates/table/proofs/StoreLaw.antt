-- Laws of stores.
use mathlib.Core.Path.{◌≡◌, refl, ap, ◌∙◌}
use mathlib.Core.List.{List, [], ◌∷◌, ◌++◌}
use Prim.Native.Nat.{ℕ, suc, ◌+◌}
use native.Mathlib.Omega.{arith}
use lib.ListN.{length, set}
use lib.Seq.{sets}
use Rattle.table.specs.Node.{Node, node, numbers_of, ◌▸◌}

-- Two runs of stores, one after the other.
pub sets-sets : {A : Type 0} (xs ys l : List A) (i j : ℕ) → i + length xs ≡ j → sets (sets l i xs) j ys ≡ sets l i (xs ++ ys)
sets-sets [] ys l i j e = ap (λ (n : ℕ). sets l n ys) (omega arith)
sets-sets (x ∷ xs) ys l i j e = sets-sets xs ys _ (suc i) j (omega arith)

-- Three stores in a row.
pub three : (l l1 l2 l3 : List ℕ) (i a b c : ℕ) → l1 ≡ set l i a → l2 ≡ set l1 (i + 1) b → l3 ≡ set l2 (i + 2) c → l3 ≡ sets l i (a ∷ b ∷ c ∷ [])
three l l1 l2 l3 i a b c e f g =
    let p : i + 1 ≡ suc i = omega arith in
    let q : i + 2 ≡ suc (suc i) = omega arith in
    g ∙ simp (f, e, p, q)

-- The numbers of more nodes.
pub numbers-append : (ns ms : List Node) → numbers_of (ns ++ ms) ≡ numbers_of ns ++ numbers_of ms
numbers-append [] ms = refl
numbers-append (node k l r ∷ ns) ms = ap (λ (xs : List ℕ). k ∷ l ∷ r ∷ xs) (numbers-append ns ms)

pub numbers_more : (ns : List Node) (k l r : ℕ) → numbers_of (ns ▸ node k l r) ≡ numbers_of ns ++ k ∷ l ∷ r ∷ []
numbers_more ns k l r = numbers-append ns (node k l r ∷ [])
