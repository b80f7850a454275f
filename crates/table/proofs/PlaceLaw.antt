-- What the code's tests of a node say of the refusals.
use mathlib.Core.Path.{◌≡◌, refl, sym, ap, ◌∙◌, subst}
use mathlib.Core.Bool.{Bool, true, false, ◌&&◌}
use mathlib.Core.Option.{Option, none}
use Prim.Native.Nat.{ℕ, ◌<◌}
use native.Mathlib.Omega.{arith}
use Rattle.trace.specs.declared.refusal.Refusal.{Refusal}
use Rattle.std.specs.Prelude.{Result, Ok, Err}
use Rattle.table.specs.declared.kind.NoKind.{NoKind}
use Rattle.table.specs.declared.kind.Refusals.{Refusals as CodeRefusals}
use Rattle.trace.specs.Refusal.{unless}
use Rattle.table.specs.Answer.{checked}
use lib.ListN.{length}
use borrow.Author.Tests.{lt-ltb, le-ltb}
use Rattle.std.proofs.Common.{IsOk}
use Rattle.table.specs.Node.{node}
use Rattle.table.specs.Rules.{Use, Rules, shape_of}
use Rattle.table.specs.Check.{unused_fits, signal_fits, operand_fits, sort_refusal, places_refusal, node_refusal}
use Rattle.table.specs.Kind.{KindIs, refusals_of}

-- What a test that was passed, or failed, says of the tests before the others.
pub test_passed : (b : Bool) (x : Refusal) (v : Unit {0}) {r : Result (Unit {0}) Refusal} → r ≡ checked (unless b x none) → r ≡ Ok v → b ≡ true
test_passed true x v e d = refl
test_passed false x v e d = cc

pub test_failed : (b : Bool) (x y : Refusal) (o : Option Refusal) {r : Result (Unit {0}) Refusal} → r ≡ checked (unless b x none) → r ≡ Err y → Err y ≡ checked (unless b x o)
test_failed true x y o e d = cc
test_failed false x y o e d = sym d ∙ e

-- The places of a node, by the code's refusals and what it answers of the sorts.
module _ (u : Use × Use) (i l r : ℕ) (lb rb : Bool) where
  abbrev pub by_refusals : CodeRefusals → Option Refusal → Option Refusal
  by_refusals x o =
      unless (unused_fits u.0 l && unused_fits u.1 r) x.unused
      (unless (signal_fits u.0 l && signal_fits u.1 r) x.signal
      (unless (operand_fits u.0 l i && operand_fits u.1 r i) x.operand o))

  pub places-coded : (R : Rules) (x : CodeRefusals) → x ≡ refusals_of R i → by_refusals x (sort_refusal R.sorts u i lb rb) ≡ places_refusal R u i l r lb rb
  unfolding places_refusal
  places-coded R x e = ap (λ (y : CodeRefusals). by_refusals y (sort_refusal R.sorts u i lb rb)) e

-- What was read of a number that a node has as its kind.
module _ {K : Type 0} (R : Rules) (number : K → ℕ) (n : ℕ) where
  pub known_ok : (r : Result K NoKind) → KindIs R number n r → n < length R.kinds → IsOk r
  known_ok (Ok k) e h = refl
  known_ok (Err x) e h = absurd (omega arith)

  module _ (i l r : ℕ) (lb rb : Bool) where
    pub no_kind : {a : Result K NoKind} {x : NoKind} {y : CodeRefusals} → KindIs R number n a → a ≡ Err x → y ≡ refusals_of R i → Err y.kind ≡ checked (node_refusal R i (node n l r) lb rb)
    unfolding node_refusal
    no_kind {a} {x} e d f = rw (le-ltb n (length R.kinds) (subst (KindIs R number n) d e)) (ap (λ (z : CodeRefusals). Err z.kind) f)

    pub by_places : {a : Result K NoKind} {k : K} {b : Result (Unit {0}) Refusal} {u : Use × Use} → KindIs R number n a → a ≡ Ok k → u ≡ shape_of R (number k)
        → b ≡ checked (places_refusal R u i l r lb rb) → b ≡ checked (node_refusal R i (node n l r) lb rb)
    unfolding node_refusal
    by_places {a} {k} {b} {u} e d p f =
        let h = subst (KindIs R number n) d e in
        let s : u ≡ shape_of R n = p ∙ ap (shape_of R) h.0 in
        rw (lt-ltb n (length R.kinds) h.1) (f ∙ ap (λ (v : Use × Use). checked (places_refusal R v i l r lb rb)) s)
