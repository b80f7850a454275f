-- Each turn tries one keyword more.
use mathlib.Core.Path.{refl, ap, sym, subst, ◌∙◌}
use mathlib.Core.List.{List}
use Prim.Native.Nat.{ℕ}
use Rattle.std.proofs.lemmas.List.{map_more, take_all}
use Rattle.std.proofs.lemmas.Option.{unwrap_or-slice_get}
use Rattle.std.specs.Prelude.{Option, unwrap_or}
use Rattle.formula_lines.specs.Inner.Kinds.{number}
use Rattle.formula_lines.specs.Inner.Reader.{sort_number, NoneOf}
use Rattle.formula_lines.proofs.KeywordLaw.{none_yet, none_more, found, none_of_sort}
use Rattle.formula_lines.proofs.forms.read_keyword.Goals as goal

pub loop-keyword-init : goal.loop-keyword-init
loop-keyword-init c = record { line = refl; place = refl; tried = none_yet _ _ c.requires }

pub loop-keyword-preserved : goal.loop-keyword-preserved
loop-keyword-preserved c =
    let inv = c.loop-keyword.invariant in
    let z = rw (inv.place, inv.line, c.word.ensures) at c.in-Err.ensures.read in
    record {
      line = c.in-Err.ensures.line ∙ inv.line;
      place = c.in-Err.ensures.read.0 ∙ inv.place;
      tried = subst (λ (ks : List ℕ). NoneOf ks c.args.cursor.now.line.now c.args.cursor.now.at c.further-fault.result.0)
          (sym (map_more number c.starting-keyword-items.result.now c.loop-keyword.keyword-index _ c.loop-keyword-test.true))
          (none_more _ _ inv.tried (z.1 c.requires) c.further-fault.ensures);
    }

pub returns-in-Ok-clause-read : goal.returns-in-Ok-clause-read
returns-in-Ok-clause-read c =
    let inv = c.loop-keyword.invariant in
    let z = rw (inv.place, inv.line, c.word.ensures) at c.in-Ok.ensures.read in (
      found (sort_number c.args.sort) c.unwrap_or-first.result c.starting-keyword-items.result.now c.loop-keyword.keyword-index _ c.loop-keyword-test.true c.starting-keyword-items.ensures,
      z.stands c.requires,
    )

pub returns-clause-read : goal.returns-clause-read
returns-clause-read c =
    let all = take_all c.loop-keyword.keyword-index c.starting-keyword-items.result.now c.loop-keyword-test.false in
    let b = c.unwrap_or-first.ensures ∙ ap (λ (o : Option ℕ). unwrap_or o 0) c.byte.ensures ∙ unwrap_or-slice_get c.args.cursor.now.line.now c.args.cursor.now.at 0 in
    none_of_sort (sort_number c.args.sort) (rw (← b, ← c.starting-keyword-items.ensures) (rw all at c.loop-keyword.invariant.tried))
