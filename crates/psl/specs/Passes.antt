-- An accepted PSL table passes what both checks share.
use Rattle.std.specs.Prelude.{◌≡◌, refl, List, ℕ}
use Rattle.std.proofs.Math.Option.{Option, none, some}
use Rattle.trace.specs.declared.refusal.Refusal.{Refusal}
use Rattle.trace.specs.Refusal.{or_else}
use Rattle.table.specs.Check.{table_refusal}
use Rattle.psl.specs.Check.{psl_rules, tree_refusal, psl_refusal}

first_none : (o p : Option Refusal) → or_else o p ≡ none → o ≡ none
first_none none p e = refl
first_none (some x) p e = e

pub psl_passes : (t : List ℕ) → psl_refusal t ≡ none → table_refusal psl_rules t ≡ none
unfolding psl_refusal
psl_passes t e = first_none (table_refusal psl_rules t) (tree_refusal t) e
