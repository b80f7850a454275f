-- The letters go one by one below what came before.
use Rattle.std.proofs.Common.{rules, Bor, ◌≡◌, ℕ, List, [], ◌++◌, append-nil, sym, subst}
use Rattle.std.proofs.lemmas.Fn.{fold_over, slice_gives, fronts}
use Rattle.rows.specs.Inner.Rows.{SignalIn}
use Rattle.rows.proofs.PushLaw.{pushed}
use Rattle.rows.proofs.SignalLaw.{signal_step}
use Rattle.rows.proofs.signal_after.Goals as goal

pub returns : goal.returns
returns c t h =
    let k = c.args.k in
    let first : SignalIn (t ++ []) k c.args.before = subst (λ (u : List ℕ). SignalIn u k c.args.before) (sym (append-nil t)) h in
    subst (λ (l : List ℕ). SignalIn (t ++ l) k c.fold.result) c.iter.ensures.rest
    (fold_over fronts (λ (y : Bor ℕ). y.now) _ (λ (xs : List ℕ) (w : ℕ). SignalIn (t ++ xs) k w) _
    (λ ys a x b f' j called. let e : b ≡ pushed a x.now k = search rules in (rw e (signal_step t ys x.now k a j), search rules))
    c.iter.result _ c.args.before c.fold.result (slice_gives c.iter.result) first c.fold.ensures.ran)
