-- Nodes that are written one after the other.
use mathlib.Core.Path.{◌≡◌, refl, ap, sym, subst, ◌∙◌}
use mathlib.Core.Bool.{Bool, false}
use mathlib.Core.List.{List, [], ◌∷◌, ◌++◌}
use Prim.Native.Nat.{ℕ, suc, min, ◌+◌, ◌*◌, ◌-◌, ◌<◌}
use native.Mathlib.Omega.{arith}
use native.Mathlib.Decide.{dec_lt}
use lib.ListN.{length, length-append}
use lib.Seq.{sets}
use Rattle.table.specs.Node.{Node, node, numbers_of}
use Rattle.table.proofs.NodeLaw.{length-numbers}
use Rattle.table.proofs.StoreLaw.{sets-sets, numbers-append}
use Rattle.formula_lines.specs.Inner.Writes.{full, Writes, Nodes, over, both, times_negated}

-- One node.
pub writes-one : (k x y : ℕ) {n m : ℕ} {l l' : List ℕ} → m ≡ min full (n + 1) → l' ≡ sets l (3 * n) (k ∷ x ∷ y ∷ []) → Writes false (node k x y ∷ []) n l m l'
writes-one k x y e d = record { counts = e; writes = λ _ _. d }

-- What is written where no signal is too large is so where none is.
pub writes-where : {a b : Bool} {x : List Node} {n m : ℕ} {l l' : List ℕ} → (b ≡ false → a ≡ false) → Writes a x n l m l' → Writes b x n l m l'
writes-where h w = record { counts = w.counts; writes = λ e f. w.writes (h e) f }

pub writes-both : {b : Bool} {x y : List Node} {n m p : ℕ} {l l' l'' : List ℕ} → Writes b x n l m l' → Writes b y m l' p l'' → Writes b (x ++ y) n l p l''
writes-both {b} {x} {y} {n} {m} {p} {l} {l'} {l''} v w =
    let s = length-append x y in
    record {
      counts = omega (arith, v.counts, w.counts, s);
      writes = λ e h.
          w.writes e h
          ∙ ap (λ (t : List ℕ). sets t (3 * m) (numbers_of y)) (v.writes e (omega (arith, w.counts, h)))
          ∙ sets-sets (numbers_of x) (numbers_of y) l (3 * n) (3 * m) (omega (arith, v.counts, w.counts, h, length-numbers x))
          ∙ ap (sets l (3 * n)) (sym (numbers-append x y));
    }

-- Behind the nodes x the nodes y, which depend on their first number.
pub writes-then : {b : Bool} (x : List Node) (y : Nodes) {n m p : ℕ} {l l' l'' : List ℕ} → Writes b x n l m l' → Writes b (y m) m l' p l''
    → Writes b (x ++ y (n + length x)) n l p l''
writes-then {b} x y {n} {m} {p} {l} {l'} {l''} v w = go (dec_lt m full)
  where
    go : Dec (m < full) → Writes b (x ++ y (n + length x)) n l p l''
    go (yes h) =
        let e : m ≡ n + length x = omega (arith, v.counts) in
        subst (λ (i : ℕ). Writes b (x ++ y i) n l p l'') e (writes-both v w)
    go (no h) =
        record {
          counts = omega (arith, v.counts, w.counts, length-append x (y (n + length x)));
          writes = λ _ f. absurd (omega (arith, w.counts, v.counts));
        }

-- Behind no node.
pub writes-after : {b : Bool} (x : Nodes) {n m p : ℕ} {l l' l'' : List ℕ} → Writes b [] n l m l' → Writes b (x m) m l' p l'' → Writes b (x n) n l p l''
writes-after {b} x {n} {p = p} {l} {l'' = l''} v w = subst (λ (i : ℕ). Writes b (x i) n l p l'') (omega arith) (writes-then [] x v w)

-- A node over the nodes x, and one over x and y.
pub writes-over : {b : Bool} (k : ℕ) (x : Nodes) {n m p : ℕ} {l l' l'' : List ℕ} → Writes b (x n) n l m l' → Writes false (node k (m - 1) 0 ∷ []) m l' p l''
    → Writes b (over k x n) n l p l''
unfolding over
writes-over k x v w = writes-then (x _) (λ m. node k (m - 1) 0 ∷ []) v (writes-where (λ _. refl) w)

pub writes-two : {b : Bool} (k : ℕ) (x y : Nodes) {n m p q : ℕ} {l l' l'' l''' : List ℕ} → Writes b (x n) n l m l' → Writes b (y m) m l' p l''
    → Writes false (node k (m - 1) (p - 1) ∷ []) p l'' q l''' → Writes b (both k x y n) n l q l'''
unfolding both
writes-two k x y {m = m} v w u =
    writes-then (x _) (λ m. y m ++ (node k (m - 1) (m + length (y m) - 1) ∷ [])) v
    (writes-then (y m) (λ p. node k (m - 1) (p - 1) ∷ []) w (writes-where (λ _. refl) u))

-- One `not` more.
pub writes-negated : {b : Bool} (i : ℕ) (x : Nodes) {n m p : ℕ} {l l' l'' : List ℕ} → Writes b (times_negated i x n) n l m l' → Writes false (node 6 (m - 1) 0 ∷ []) m l' p l''
    → Writes b (times_negated (i + 1) x n) n l p l''
writes-negated {b} i x {n} {p = p} {l} {l'' = l''} v w =
    let e : suc i ≡ i + 1 = omega arith in
    subst (λ (j : ℕ). Writes b (times_negated j x n) n l p l'') e (writes-over 6 (times_negated i x) v w)
