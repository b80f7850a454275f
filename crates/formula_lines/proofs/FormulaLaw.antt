-- Written formulas as forms: the forms of sort 0 are the Booleans', those of sort 1 the written formulas'. So no two are spelled alike.
use mathlib.Core.Path.{◌≡◌, refl, ap, sym, subst, ◌∙◌}
use mathlib.Core.List.{List, [], ◌∷◌, ◌++◌, append_assoc, append_cancel_left, tail-eq_of_cons-eq}
use Prim.Native.Nat.{ℕ, zero, suc, ◌-◌}
use native.Mathlib.Omega.{arith}
use lib.Dec.{T}
use lib.ListN.{get_or}
use Rattle.logic.specs.Formula.{BoolExpr, btrue, var, bnot, band}
use Rattle.logic.specs.Written.{Written, Weak, Strong, Not, And, Next, Until, Abort, Or, Implies, Iff, WeakNext, Eventually, Always, WeakUntil, Before}
use Rattle.text.specs.Text.{text}
use Rattle.text.specs.Inner.Words.{elem}
use Rattle.text.proofs.WordLaw.{all_elem}
use Rattle.formula_lines.specs.Spelling.{spell_b, spell, formula_line}
use Rattle.formula_lines.specs.Inner.Kinds.{keyword, shape, arity, left_sort, right_sort, kinds}
use Rattle.formula_lines.specs.Inner.Form.{Form, truth, signal, one, two, Sorted, bytes}
use Rattle.formula_lines.proofs.FormLaw.{form_unique}

abbrev pub bool_form : BoolExpr → Form
bool_form btrue = truth
bool_form (var k) = signal k
bool_form (bnot b) = one 2 (bool_form b)
bool_form (band b c) = two 3 (bool_form b) (bool_form c)

abbrev pub form : Written → Form
form (Weak b) = one 4 (bool_form b)
form (Strong b) = one 5 (bool_form b)
form (Not f) = one 6 (form f)
form (And f g) = two 7 (form f) (form g)
form (Next f) = one 8 (form f)
form (Until f g) = two 9 (form f) (form g)
form (Abort f b) = two 10 (form f) (bool_form b)
form (Or f g) = two 11 (form f) (form g)
form (Implies f g) = two 12 (form f) (form g)
form (Iff f g) = two 13 (form f) (form g)
form (WeakNext f) = one 14 (form f)
form (Eventually f) = one 15 (form f)
form (Always f) = one 16 (form f)
form (WeakUntil f g) = two 17 (form f) (form g)
form (Before f g) = two 18 (form f) (form g)

-- ── Sorts ──

bool_sorted : (b : BoolExpr) → Sorted 0 (bool_form b)
unfolding shape
bool_sorted btrue = refl
bool_sorted (var k) = refl
bool_sorted (bnot b) = (tt, refl, bool_sorted b)
bool_sorted (band b c) = (tt, refl, bool_sorted b, bool_sorted c)

pub form-sorted : (w : Written) → Sorted 1 (form w)
unfolding shape
form-sorted (Weak b) = (tt, refl, bool_sorted b)
form-sorted (Strong b) = (tt, refl, bool_sorted b)
form-sorted (Not f) = (tt, refl, form-sorted f)
form-sorted (And f g) = (tt, refl, form-sorted f, form-sorted g)
form-sorted (Next f) = (tt, refl, form-sorted f)
form-sorted (Until f g) = (tt, refl, form-sorted f, form-sorted g)
form-sorted (Abort f b) = (tt, refl, form-sorted f, bool_sorted b)
form-sorted (Or f g) = (tt, refl, form-sorted f, form-sorted g)
form-sorted (Implies f g) = (tt, refl, form-sorted f, form-sorted g)
form-sorted (Iff f g) = (tt, refl, form-sorted f, form-sorted g)
form-sorted (WeakNext f) = (tt, refl, form-sorted f)
form-sorted (Eventually f) = (tt, refl, form-sorted f)
form-sorted (Always f) = (tt, refl, form-sorted f)
form-sorted (WeakUntil f g) = (tt, refl, form-sorted f, form-sorted g)
form-sorted (Before f g) = (tt, refl, form-sorted f, form-sorted g)

-- ── Bytes ──

bool_bytes : (b : BoolExpr) → bytes (bool_form b) ≡ spell_b b
unfolding bytes spell_b keyword
bool_bytes btrue = refl
bool_bytes (var k) = refl
bool_bytes (bnot b) = rw (bool_bytes b)
bool_bytes (band b c) = rw (bool_bytes b, bool_bytes c)

pub form-bytes : (w : Written) → bytes (form w) ≡ spell w
unfolding bytes spell keyword
form-bytes (Weak b) = rw (bool_bytes b)
form-bytes (Strong b) = rw (bool_bytes b)
form-bytes (Not f) = rw (form-bytes f)
form-bytes (And f g) = rw (form-bytes f, form-bytes g)
form-bytes (Next f) = rw (form-bytes f)
form-bytes (Until f g) = rw (form-bytes f, form-bytes g)
form-bytes (Abort f b) = rw (form-bytes f, bool_bytes b)
form-bytes (Or f g) = rw (form-bytes f, form-bytes g)
form-bytes (Implies f g) = rw (form-bytes f, form-bytes g)
form-bytes (Iff f g) = rw (form-bytes f, form-bytes g)
form-bytes (WeakNext f) = rw (form-bytes f)
form-bytes (Eventually f) = rw (form-bytes f)
form-bytes (Always f) = rw (form-bytes f)
form-bytes (WeakUntil f g) = rw (form-bytes f, form-bytes g)
form-bytes (Before f g) = rw (form-bytes f, form-bytes g)

-- ── Back from a form ──

-- By the kind from 4 on. An operand is read as either sort, and the kind tells which it is.
of_kind : ℕ → Written → BoolExpr → Written → BoolExpr → Written
of_kind k f b g c =
    get_or (
    Weak b
    ∷ Strong b
    ∷ Not f
    ∷ And f g
    ∷ Next f
    ∷ Until f g
    ∷ Abort f c
    ∷ Or f g
    ∷ Implies f g
    ∷ Iff f g
    ∷ WeakNext f
    ∷ Eventually f
    ∷ Always f
    ∷ WeakUntil f g
    ∷ Before f g
    ∷ []
    ) (k - 4) (Weak btrue)

back_bool : Form → BoolExpr
back_bool truth = btrue
back_bool (signal k) = var k
back_bool (one k f) = bnot (back_bool f)
back_bool (two k f g) = band (back_bool f) (back_bool g)

back : Form → Written
back truth = Weak btrue
back (signal k) = Weak btrue
back (one k f) = of_kind k (back f) (back_bool f) (back f) (back_bool f)
back (two k f g) = of_kind k (back f) (back_bool f) (back g) (back_bool g)

bool_back : (b : BoolExpr) → back_bool (bool_form b) ≡ b
unfolding back_bool
bool_back btrue = refl
bool_back (var k) = refl
bool_back (bnot b) = rw (bool_back b)
bool_back (band b c) = rw (bool_back b, bool_back c)

form-back : (w : Written) → back (form w) ≡ w
unfolding back of_kind
form-back (Weak b) = rw (bool_back b)
form-back (Strong b) = rw (bool_back b)
form-back (Not f) = rw (form-back f)
form-back (And f g) = rw (form-back f, form-back g)
form-back (Next f) = rw (form-back f)
form-back (Until f g) = rw (form-back f, form-back g)
form-back (Abort f b) = rw (form-back f, bool_back b)
form-back (Or f g) = rw (form-back f, form-back g)
form-back (Implies f g) = rw (form-back f, form-back g)
form-back (Iff f g) = rw (form-back f, form-back g)
form-back (WeakNext f) = rw (form-back f)
form-back (Eventually f) = rw (form-back f)
form-back (Always f) = rw (form-back f)
form-back (WeakUntil f g) = rw (form-back f, form-back g)
form-back (Before f g) = rw (form-back f, form-back g)

-- ── Every form of a sort is a Boolean's or a written formula's ──

-- There and back.
again : ℕ → Form → Form
again zero f = bool_form (back_bool f)
again (suc so) f = form (back f)

-- A kind with its operands comes back as that kind, by how many it has.
abbrev Kept : ℕ → ℕ → Form → Form → ℕ → Type 0
Kept so zero f g k = Unit {0}
Kept so (suc zero) f g k = again so (one k f) ≡ one k (again (left_sort k) f)
Kept so (suc (suc n)) f g k = again so (two k f g) ≡ two k (again (left_sort k) f) (again (right_sort k) g)

kept : (so : ℕ) (f g : Form) (k : ℕ) → T (elem k (kinds so)) → Kept so (arity k) f g k
unfolding again back back_bool of_kind shape
kept zero f g = all_elem (λ k. Kept 0 (arity k) f g k) (kinds 0) (tt, (refl, (refl, tt)))
kept (suc so) f g = all_elem (λ k. Kept (suc so) (arity k) f g k) (kinds 1) (refl, (refl, (refl, (refl, (refl, (refl, (refl, (refl, (refl, (refl, (refl, (refl, (refl, (refl, (refl, tt)))))))))))))))

same : (f : Form) (so : ℕ) → Sorted so f → again so f ≡ f
unfolding again back_bool
same truth zero h = refl
same truth (suc so) h = absurd (omega arith)
same (signal k) zero h = refl
same (signal k) (suc so) h = absurd (omega arith)
same (one k f) so (m, a, h) = subst (λ (n : ℕ). Kept so n f f k) a (kept so f f k m) ∙ ap (one k) (same f (left_sort k) h)
same (two k f g) so (m, a, h, i) =
    subst (λ (n : ℕ). Kept so n f g k) a (kept so f g k m)
    ∙ ap (λ (x : Form). two k x (again (right_sort k) g)) (same f (left_sort k) h) ∙ ap (two k f) (same g (right_sort k) i)

pub as_written : (f : Form) → Sorted 1 f → (w : Written) × (form w ≡ f)
unfolding again
as_written f h = (back f, same f 1 h)

-- ── No two written formulas are spelled alike ──

pub spell_unique : (v w : Written) (t u : List ℕ) → spell v ++ t ≡ spell w ++ u → (v ≡ w) × (t ≡ u)
spell_unique v w t u e =
    let (p, q) = form_unique (form v) (form w) 1 t u (form-sorted v) (form-sorted w) (simp form-bytes e) in
    (sym (form-back v) ∙ ap back p ∙ form-back w, q)

pub line_unique : (v w : Written) (t u : List ℕ) → formula_line v ++ t ≡ formula_line w ++ u → (v ≡ w) × (t ≡ u)
line_unique v w t u e =
    let (p, q) = spell_unique v w (41 ∷ t) (41 ∷ u) (simp append_assoc at (append_cancel_left (text "(psl ") _ _ e)) in
    (p, tail-eq_of_cons-eq q)

pub formula_injective : (v w : Written) → formula_line v ≡ formula_line w → v ≡ w
formula_injective v w e = (line_unique v w [] [] (ap (λ (x : List ℕ). x ++ []) e)).0
