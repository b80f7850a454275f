-- Forms: each is read from its bytes in one way, whatever follows.
use mathlib.Core.Path.{◌≡◌, refl, ap, sym, subst, ◌∙◌}
use mathlib.Core.Logic.{◌⊎◌, inl, inr}
use mathlib.Core.Bool.{true}
use mathlib.Core.List.{List, [], ◌∷◌, ◌++◌, append_assoc, append_cancel_left, head-eq_of_cons-eq, tail-eq_of_cons-eq}
use Prim.Native.Nat.{ℕ, zero, suc, min, ◌≤◌, ◌<◌}
use native.Mathlib.Omega.{arith}
use borrow.Author.Tests.{ltb-true}
use lib.Dec.{T, ltb}
use lib.ListN.{length}
use Rattle.table.specs.Rules.{Use, unused, signal as a_signal, operand}
use Rattle.text.specs.Text.{text}
use Rattle.text.specs.Inner.Number.{NoDigit}
use Rattle.formula_lines.specs.Inner.Kinds.{keyword, forms, shape, arity, left_sort, right_sort, kinds}
use Rattle.formula_lines.specs.Inner.Form.{Form, truth, signal, one, two, Sorted, OfKind, bytes, inner}
use Rattle.text.specs.Inner.Words.{elem}
use Rattle.formula_lines.specs.Inner.Reader.{Ended}
use Rattle.text.proofs.NumberLaw.{digits_unique}
use Rattle.text.proofs.WordLaw.{all_elem, Distinct, word_unique}

-- ── Kinds ──

-- What is known of the kinds of a sort: each has a keyword, var alone takes no form, and none takes more than two.
pub record KindFact (so k : ℕ) : Type 0 where
  pub word : 0 < length (keyword k)
  pub var : arity k ≡ 0 → (k ≡ 1) × (so ≡ 0)
  pub most : arity k ≤ 2

forms_most : (u : Use) → forms u ≤ 1
forms_most unused = omega arith
forms_most a_signal = omega arith
forms_most (operand b) = omega arith

-- A kind that has a keyword and takes a form.
TakesForms : ℕ → Type 0
TakesForms k = ltb 0 (min (length (keyword k)) (arity k)) ≡ true

takes_forms : (so k : ℕ) → TakesForms k → KindFact so k
unfolding TakesForms
takes_forms so k e =
    let h : 0 < min (length (keyword k)) (arity k) = ltb-true 0 _ e in
    record { word = omega arith; var = λ z. absurd (omega arith); most = omega (arith, forms_most (shape k).0, forms_most (shape k).1) }

pub kind_fact : (so k : ℕ) → T (elem k (kinds so)) → KindFact so k
unfolding shape keyword TakesForms
kind_fact zero k m = all_elem (KindFact 0) (kinds 0) (record { word = omega arith; var = λ e. (refl, refl); most = omega arith }, (takes_forms 0 2 refl, (takes_forms 0 3 refl, tt))) k m
kind_fact (suc so) k m =
    takes_forms (suc so) k
    (all_elem TakesForms (kinds 1) (refl, (refl, (refl, (refl, (refl, (refl, (refl, (refl, (refl, (refl, (refl, (refl, (refl, (refl, (refl, tt))))))))))))))) k m)

kinds_distinct : (so : ℕ) → Distinct keyword (kinds so)
unfolding keyword
kinds_distinct zero = tt
kinds_distinct (suc so) = tt

pub var-arity : arity 1 ≡ 0
unfolding shape
var-arity = refl

-- ── A form is `true` or stands in brackets ──

pub record Bracketed (so : ℕ) (f : Form) : Type 0 where
  pub kind : ℕ
  pub member : T (elem kind (kinds so))
  pub is : OfKind kind f

var-boolean : (so : ℕ) → so ≡ 0 → T (elem 1 (kinds so))
var-boolean so e = subst (λ (x : ℕ). T (elem 1 (kinds x))) (sym e) tt

abbrev pub View : ℕ → Form → Type 0
View so f = ((f ≡ truth) × (so ≡ 0)) ⊎ Bracketed so f

pub view : (f : Form) (so : ℕ) → Sorted so f → View so f
view truth so h = inl (refl, h)
view (signal n) so h = inr (record { kind = 1; member = var-boolean so h; is = refl })
view (one k f) so (m, a, h) = inr (record { kind = k; member = m; is = (refl, a, h) })
view (two k f g) so (m, a, h, i) = inr (record { kind = k; member = m; is = (refl, a, h, i) })

-- A form of a kind has the sorts of its kind.
pub kind-sorted : (f : Form) (k so : ℕ) → T (elem k (kinds so)) → OfKind k f → Sorted so f
kind-sorted truth k so m h = absurd h
kind-sorted (signal n) k so m h = ((kind_fact so k m).var (ap arity h ∙ var-arity)).1
kind-sorted (one j f) k so m (e, a, h) = subst (λ (k : ℕ). T (elem k (kinds so)) × (arity k ≡ 1) × Sorted (left_sort k) f) e (m, a, h)
kind-sorted (two j f g) k so m (e, a, h, i) =
    subst (λ (k : ℕ). T (elem k (kinds so)) × (arity k ≡ 2) × Sorted (left_sort k) f × Sorted (right_sort k) g) e (m, a, h, i)

pub kind-bytes : (f : Form) (k : ℕ) → OfKind k f → bytes f ≡ 40 ∷ (keyword k ++ (inner f ++ (41 ∷ [])))
unfolding bytes
kind-bytes truth k h = absurd h
kind-bytes (signal n) k h = ap (λ (k : ℕ). 40 ∷ (keyword k ++ (inner (signal n) ++ (41 ∷ [])))) (sym h)
kind-bytes (one j f) k (e, _, _) = ap (λ (k : ℕ). 40 ∷ (keyword k ++ (bytes f ++ (41 ∷ [])))) (sym e)
kind-bytes (two j f g) k (e, _, _, _) =
    ap (λ (k : ℕ). 40 ∷ (keyword k ++ (bytes f ++ (32 ∷ (bytes g ++ (41 ∷ [])))))) (sym e)
    ∙ ap (λ (x : List ℕ). 40 ∷ (keyword k ++ x)) (sym (append_assoc (bytes f) (32 ∷ bytes g) (41 ∷ [])))

-- ── The operands of a kind, by how many forms it takes ──

pub none_of : (f : Form) (k : ℕ) → OfKind k f → arity k ≡ 0 → (n : ℕ) × (f ≡ signal n)
none_of truth k h a = absurd h
none_of (signal n) k h a = (n, refl)
none_of (one j f) k (_, b, _) a = absurd (omega arith)
none_of (two j f g) k (_, b, _, _) a = absurd (omega arith)

pub one_of : (f : Form) (k : ℕ) → OfKind k f → arity k ≡ 1 → (g : Form) × (inner f ≡ bytes g) × Sorted (left_sort k) g
one_of truth k h a = absurd h
one_of (signal n) k h a = absurd (omega (arith, ap arity h ∙ var-arity))
one_of (one j f) k (_, _, s) a = (f, refl, s)
one_of (two j f g) k (_, b, _, _) a = absurd (omega arith)

pub two_of : (f : Form) (k : ℕ) → OfKind k f → arity k ≡ 2
    → (g : Form) × (h : Form) × (inner f ≡ bytes g ++ (32 ∷ bytes h)) × Sorted (left_sort k) g × Sorted (right_sort k) h
two_of truth k h a = absurd h
two_of (signal n) k h a = absurd (omega (arith, ap arity h ∙ var-arity))
two_of (one j f) k (_, b, _) a = absurd (omega arith)
two_of (two j f g) k (_, _, s, t) a = (f, g, refl, s, t)

-- ── One way to read ──

bracket_no-digit : (t : List ℕ) → NoDigit (41 ∷ t)
bracket_no-digit t d = omega (arith, d)

pub ended_bracket : (f : Form) (t : List ℕ) → Ended f (41 ∷ t)
ended_bracket truth t = tt
ended_bracket (signal n) t = bracket_no-digit t
ended_bracket (one k f) t = tt
ended_bracket (two k f g) t = tt

-- The operands of f and of g, which are of one kind.
abbrev InnerUnique : Form → Form → Type 0
InnerUnique f g =
    (k : ℕ) (t u : List ℕ) → OfKind k f → OfKind k g → Ended f t → inner f ++ t ≡ inner g ++ (41 ∷ u) → (f ≡ g) × (t ≡ 41 ∷ u)

abbrev Unique : Form → Form → Type 0
Unique f g = (so : ℕ) (t u : List ℕ) → Sorted so f → Sorted so g → bytes f ++ t ≡ bytes g ++ u → (f ≡ g) × (t ≡ u)

true-bytes : (f : Form) (t : List ℕ) → f ≡ truth → bytes f ++ t ≡ text "true" ++ t
unfolding bytes
true-bytes f t e = ap (λ (x : Form). bytes x ++ t) e

pub open_bytes : (f : Form) (k : ℕ) (t : List ℕ) → OfKind k f → bytes f ++ t ≡ 40 ∷ (keyword k ++ (inner f ++ (41 ∷ t)))
open_bytes f k t h = ap (λ (x : List ℕ). x ++ t) (kind-bytes f k h) ∙ simp append_assoc

-- After the keyword of a kind only a form of that kind can stand.
pub word-kind : (so k : ℕ) → T (elem k (kinds so)) → (f : Form) → Sorted so f → (x t : List ℕ) → 40 ∷ (keyword k ++ x) ≡ bytes f ++ t
    → OfKind k f × (x ≡ inner f ++ (41 ∷ t))
word-kind so k m f sf x t e = go (view f so sf)
  where
    go : View so f → OfKind k f × (x ≡ inner f ++ (41 ∷ t))
    go (inl (y, _)) = absurd (omega (arith, head-eq_of_cons-eq (e ∙ true-bytes f t y)))
    go (inr b) =
        let d = tail-eq_of_cons-eq (e ∙ open_bytes f b.kind t b.is) in
        let j : b.kind ≡ k = sym (word_unique keyword (kinds so) (kinds_distinct so) k b.kind m b.member _ _ d) in (
          subst (λ (i : ℕ). OfKind i f) j b.is,
          append_cancel_left (keyword k) _ _ (d ∙ ap (λ (i : ℕ). keyword i ++ (inner f ++ (41 ∷ t))) j),
        )

from_inner : (f g : Form) → InnerUnique f g → Unique f g
from_inner f g ih so t u sf sg e = go (view f so sf) (view g so sg)
  where
    go : View so f → View so g → (f ≡ g) × (t ≡ u)
    go (inl (p, _)) (inl (q, _)) =
        (p ∙ sym q, append_cancel_left (text "true") t u (sym (true-bytes f t p) ∙ e ∙ true-bytes g u q))
    go (inl (p, _)) (inr b) =
        absurd (omega (arith, head-eq_of_cons-eq (sym (true-bytes f t p) ∙ e ∙ open_bytes g b.kind u b.is)))
    go (inr a) _ =
        let k = a.kind in
        let (b, d) = word-kind so k a.member g sg (inner f ++ (41 ∷ t)) u (sym (open_bytes f k t a.is) ∙ e) in
        let (p, q) = ih k (41 ∷ t) u a.is b (ended_bracket f t) d in
        (p, tail-eq_of_cons-eq q)

inner_unique : (f g : Form) → InnerUnique f g
inner_unique truth g k t u a b h e = absurd a
inner_unique (signal n) truth k t u a b h e = absurd b
inner_unique (one i f) truth k t u a b h e = absurd b
inner_unique (two i f f') truth k t u a b h e = absurd b
inner_unique (signal n) (signal m) k t u a b h e =
    let (p, q) = digits_unique n m t (41 ∷ u) h (bracket_no-digit u) e in
    (ap signal p, q)
inner_unique (signal n) (one j g) k t u a (_, b, _) h e = absurd (omega (arith, ap arity a ∙ var-arity))
inner_unique (signal n) (two j g g') k t u a (_, b, _, _) h e = absurd (omega (arith, ap arity a ∙ var-arity))
inner_unique (one i f) (signal m) k t u (_, a, _) b h e = absurd (omega (arith, ap arity b ∙ var-arity))
inner_unique (one i f) (one j g) k t u (x, _, a) (y, _, b) h e =
    let (p, q) = from_inner f g (inner_unique f g) (left_sort k) t (41 ∷ u) a b e in
    (ap (λ (l : ℕ). one l f) (sym x ∙ y) ∙ ap (one j) p, q)
inner_unique (one i f) (two j g g') k t u (_, a, _) (_, b, _, _) h e = absurd (omega arith)
inner_unique (two i f f') (signal m) k t u (_, a, _, _) b h e = absurd (omega (arith, ap arity b ∙ var-arity))
inner_unique (two i f f') (one j g) k t u (_, a, _, _) (_, b, _) h e = absurd (omega arith)
inner_unique (two i f f') (two j g g') k t u (x, _, a, a') (y, _, b, b') h e =
    let d = sym (append_assoc (bytes f) (32 ∷ bytes f') t) ∙ e ∙ append_assoc (bytes g) (32 ∷ bytes g') (41 ∷ u) in
    let (p, q) = from_inner f g (inner_unique f g) (left_sort k) (32 ∷ (bytes f' ++ t)) (32 ∷ (bytes g' ++ (41 ∷ u))) a b d in
    let (p', q') = from_inner f' g' (inner_unique f' g') (right_sort k) t (41 ∷ u) a' b' (tail-eq_of_cons-eq q) in
    (ap (λ (l : ℕ). two l f f') (sym x ∙ y) ∙ ap (λ (l : Form). two j l f') p ∙ ap (two j g) p', q')

pub operands_unique : (f g : Form) → InnerUnique f g
operands_unique = inner_unique

pub form_unique : (f g : Form) → Unique f g
form_unique f g = from_inner f g (inner_unique f g)

-- ── Some form of a sort, and of a kind ──

pub sample : ℕ → Form
sample zero = signal 0
sample (suc so) = one 4 truth

pub sample_sorted : (so : ℕ) → Sorted so (sample so)
unfolding sample shape
sample_sorted zero = refl
sample_sorted (suc so) = (tt, refl, refl)

pub sample_open : (so : ℕ) → (x : List ℕ) × (bytes (sample so) ≡ 40 ∷ x)
unfolding sample bytes
sample_open zero = (_, refl)
sample_open (suc so) = (_, refl)

pub kind_sample : (so k : ℕ) → T (elem k (kinds so)) → (f : Form) × OfKind k f
kind_sample so k m = go (arity k) refl (kind_fact so k m)
  where
    go : (a : ℕ) → arity k ≡ a → KindFact so k → (f : Form) × OfKind k f
    go zero e h = (signal 0, (h.var e).0)
    go (suc zero) e h = (one k (sample (left_sort k)), (refl, e, sample_sorted (left_sort k)))
    go (suc (suc a)) e h =
        (two k (sample (left_sort k)) (sample (right_sort k)), (refl, omega (arith, h.most), sample_sorted (left_sort k), sample_sorted (right_sort k)))
