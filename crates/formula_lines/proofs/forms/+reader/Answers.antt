-- Each way out has its law in `ReaderLaw`. The readers leave the line as it was, so that what each read it read of the line that was lent.
use Rattle.std.proofs.Common.{refl, ap, ◌∙◌, arith, length}
use Rattle.text.proofs.PlaceLaw.{stands_end}
use Rattle.std.proofs.lemmas.Result.{err_from_is_err_and}
use Rattle.formula_lines.specs.Inner.Form.{nodes_from}
use Rattle.formula_lines.specs.Inner.Writes.{negated, both, forever, not_without, negations, between, two_nodes}
use Rattle.formula_lines.specs.Inner.Kinds.{short_number, number}
use Rattle.formula_lines.specs.Inner.Reader.{sort_number}
use Rattle.formula_lines.specs.declared.keywords.Short.{Short}
use Rattle.formula_lines.proofs.FormLaw.{kind_fact}
use Rattle.formula_lines.proofs.WritesLaw.{writes-where, writes-over, writes-two}
use Rattle.formula_lines.proofs.ShortLaw.{two-node, formulas, either}
use Rattle.formula_lines.proofs.ReaderLaw.{Entered, no_word, no_operands, no_bracket, closes, reads, read-again, first-no, one-stands, no-space, second_no, two_stand}
use Rattle.formula_lines.proofs.forms.+reader.Goals as goal

-- ── read_form ──

pub read_form-returns-in_err-keyword-clause-read : goal.read_form-returns-in_err-keyword-clause-read
read_form-returns-in_err-keyword-clause-read t c =
    let a = rw c.if-not-accept.ensures.line at c.in_err-keyword.ensures.read in
    let p = err_from_is_err_and c.from_residual.result c.from_residual.ensures.1 in
    rw (p.1, p.2) (no_word (sort_number c.args.sort) c.if-not-accept.ensures.read a)

pub read_form-read_operands-requires : goal.read_form-read_operands-requires
read_form-read_operands-requires t c =
    let k = rw c.if-not-accept.ensures.line at c.in_ok-keyword.ensures.read in
    let e = ap length (c.in_ok-keyword.ensures.line ∙ c.if-not-accept.ensures.line) in
    let mid = stands_end c.if-not-accept.ensures.read in (
      omega (arith, mid, e, k.1.after, k.1.within, c.decreases),
      (
        record { few = omega (arith, mid, k.1.after); within = omega (arith, e, k.1.within) },
        (sort_number c.args.sort, k.0),
      ),
    )

pub read_form-returns-in_err-read-clause-read : goal.read_form-returns-in_err-read-clause-read
read_form-returns-in_err-read-clause-read t c =
    let k = rw c.if-not-accept.ensures.line at c.in_ok-keyword.ensures.read in
    let E : Entered c.args.cursor.now.line.now c.args.cursor.now.at (sort_number c.args.sort) (number c.in_ok-keyword.keyword) c.read_keyword.new.cursor.at =
    record { mid = c.accept.new.self.at; opened = c.if-not-accept.ensures.read; member = k.0; named = k.1 } in
    let a = rw (c.in_ok-keyword.ensures.line, c.if-not-accept.ensures.line) at c.in_err-read.ensures.read in
    let p = err_from_is_err_and c.from_residual-in_err-read.result c.from_residual-in_err-read.ensures.1 in
    rw (p.1, p.2) (no_operands E a)

pub read_form-returns-in_err-expect-clause-read : goal.read_form-returns-in_err-expect-clause-read
read_form-returns-in_err-expect-clause-read t c =
    let k = rw c.if-not-accept.ensures.line at c.in_ok-keyword.ensures.read in
    let E : Entered c.args.cursor.now.line.now c.args.cursor.now.at (sort_number c.args.sort) (number c.in_ok-keyword.keyword) c.read_keyword.new.cursor.at =
    record { mid = c.accept.new.self.at; opened = c.if-not-accept.ensures.read; member = k.0; named = k.1 } in
    let b = rw (c.in_ok-keyword.ensures.line, c.if-not-accept.ensures.line) at c.in_ok-read.ensures.read in
    let z = rw (c.in_ok-read.ensures.line, c.in_ok-keyword.ensures.line, c.if-not-accept.ensures.line) at c.in_err-expect.ensures.read in
    let p = err_from_is_err_and c.from_residual-in_err-expect.result c.from_residual-in_err-expect.ensures.1 in
    rw (p.1, p.2) (no_bracket E b.1 b.2 (z.1 b.2.stands.within))

pub read_form-returns-clause-read : goal.read_form-returns-clause-read
read_form-returns-clause-read t c =
    let k = rw c.if-not-accept.ensures.line at c.in_ok-keyword.ensures.read in
    let E : Entered c.args.cursor.now.line.now c.args.cursor.now.at (sort_number c.args.sort) (number c.in_ok-keyword.keyword) c.read_keyword.new.cursor.at =
    record { mid = c.accept.new.self.at; opened = c.if-not-accept.ensures.read; member = k.0; named = k.1 } in
    let b = rw (c.in_ok-keyword.ensures.line, c.if-not-accept.ensures.line) at c.in_ok-read.ensures.read in
    let w = rw (c.in_ok-read.ensures.line, c.in_ok-keyword.ensures.line, c.if-not-accept.ensures.line) at c.in_ok-expect.ensures.read in
    closes E b.1 b.2 (w.stands b.2.stands.within)

-- ── read_operands ──

pub read_operands-returns-in-Signal-clause-read : goal.read_operands-returns-in-Signal-clause-read
read_operands-returns-in-Signal-clause-read t c =
    let (so, m) = c.requires.kind in
    let e = ((kind_fact so (number c.args.keyword) m).var c.in-Signal.ensures).0 in
    rw e c.read_signal.ensures.read

pub read_operands-returns-in_err-read-in-One-clause-read : goal.read_operands-returns-in_err-read-in-One-clause-read
read_operands-returns-in_err-read-in-One-clause-read t c =
    let k = c.in-One.ensures in
    let a = rw (← k.1) at c.in_err-read-in-One.ensures.read in
    let p = err_from_is_err_and c.from_residual.result c.from_residual.ensures.1 in
    rw (p.1, p.2) (first-no (number c.args.keyword) c.requires.kind (λ e. omega (arith, k.0, e)) a)

pub read_operands-returns-in_err-before-in-Two-clause-read : goal.read_operands-returns-in_err-before-in-Two-clause-read
read_operands-returns-in_err-before-in-Two-clause-read t c =
    let k = c.in-Two.ensures in
    let a = rw (← k.1) at c.in_err-before-in-Two.ensures.read in
    let p = err_from_is_err_and c.from_residual-in_err-before-in-Two.result c.from_residual-in_err-before-in-Two.ensures.1 in
    rw (p.1, p.2) (first-no (number c.args.keyword) c.requires.kind (λ e. omega (arith, k.0, e)) a)

pub read_operands-returns-in_err-expect-in-Two-clause-read : goal.read_operands-returns-in_err-expect-in-Two-clause-read
read_operands-returns-in_err-expect-in-Two-clause-read t c =
    let k = c.in-Two.ensures in
    let a = rw (← k.1) at c.in_ok-before-in-Two.ensures.read in
    let z = rw c.in_ok-before-in-Two.ensures.line at c.in_err-expect-in-Two.ensures.read in
    let p = err_from_is_err_and c.from_residual-in_err-expect-in-Two.result c.from_residual-in_err-expect-in-Two.ensures.1 in
    rw (p.1, p.2) (no-space (number c.args.keyword) a.1 a.2 k.0 (z.1 a.2.stands.within))

pub read_operands-returns-in_err-after-in-Two-clause-read : goal.read_operands-returns-in_err-after-in-Two-clause-read
read_operands-returns-in_err-after-in-Two-clause-read t c =
    let k = c.in-Two.ensures in
    let a = rw (← k.1) at c.in_ok-before-in-Two.ensures.read in
    let o = rw c.in_ok-before-in-Two.ensures.line at c.in_ok-expect-in-Two.ensures.read in
    let b = rw (c.in_ok-expect-in-Two.ensures.line, c.in_ok-before-in-Two.ensures.line, ← k.2) at c.in_err-after-in-Two.ensures.read in
    let p = err_from_is_err_and c.from_residual-in_err-after-in-Two.result c.from_residual-in_err-after-in-Two.ensures.1 in
    rw (p.1, p.2) (second_no (number c.args.keyword) a.1 a.2 k.0 (o.stands a.2.stands.within) b)

pub read_operands-returns-in_ok-read-in-One-clause-read : goal.read_operands-returns-in_ok-read-in-One-clause-read
read_operands-returns-in_ok-read-in-One-clause-read t c =
    let k = c.in-One.ensures in
    let a = rw (← k.1) at c.in_ok-read-in-One.ensures.read in
    one-stands (number c.args.keyword) a.1 a.2 k.0 c.put_ahead-start.ensures c.close_one.ensures.nodes

pub read_operands-returns-in_ok-after-in-Two-clause-read : goal.read_operands-returns-in_ok-after-in-Two-clause-read
read_operands-returns-in_ok-after-in-Two-clause-read t c =
    let k = c.in-Two.ensures in
    let a = rw (← k.1) at c.in_ok-before-in-Two.ensures.read in
    let o = rw c.in_ok-before-in-Two.ensures.line at c.in_ok-expect-in-Two.ensures.read in
    let b = rw (c.in_ok-expect-in-Two.ensures.line, c.in_ok-before-in-Two.ensures.line, ← k.2) at c.in_ok-after-in-Two.ensures.read in
    let closed = rw (c.in_ok-after-in-Two.ensures.line, c.in_ok-expect-in-Two.ensures.line, c.in_ok-before-in-Two.ensures.line) at c.close_two.ensures.nodes in
    two_stand (number c.args.keyword) a.1 a.2 k.0 (o.stands a.2.stands.within) b.1 c.put_between-start.ensures.nodes b.2 _ refl closed

-- ── close_two and read_again ──

pub close_two-returns-in-Node-clause-nodes : goal.close_two-returns-in-Node-clause-nodes
close_two-returns-in-Node-clause-nodes t c =
    λ b f g n l₀ l₁ T v w. rw c.in-Node.is (two-node c.in-Node.kind (nodes_from f) (nodes_from g) (rw c.in-Node.is at v) w c.put_both.ensures)

pub close_two-returns-in-Short-clause-nodes : goal.close_two-returns-in-Short-clause-nodes
close_two-returns-in-Short-clause-nodes t c =
    λ b f g n l₀ l₁ T v w. rw c.in-Short.is (c.close_short_two.ensures.nodes b f g n l₀ l₁ (rw c.in-Short.is at T) (rw c.in-Short.is at v) w)

pub read_again-returns-in-Ok-clause-nodes : goal.read_again-returns-in-Ok-clause-nodes
read_again-returns-in-Ok-clause-nodes t c = λ b f next sf a small. let (g, sg, r) = c.in-Ok.ensures.read in read-again b f g 1 sf a small sg r

pub read_again-returns-in-Err-clause-nodes : goal.read_again-returns-in-Err-clause-nodes
read_again-returns-in-Err-clause-nodes t c = λ b f next sf a small. absurd (reads f 1 sf a c.in-Err.ensures.read)

pub close_short_two-returns-in-Iff-clause-nodes : goal.close_short_two-returns-in-Iff-clause-nodes
unfolding negations two_nodes
close_short_two-returns-in-Iff-clause-nodes t c =
    rw c.in-Iff.is
    (λ b f g n l₀ l₁ T v w.
    let x = nodes_from f in
    let y = nodes_from g in
    let forth = c.put_not_without-forth.ensures.nodes b (between 13 x) y n l₀ l₁ v w in
    let second = c.read_again-second.ensures.nodes b g T.last (formulas Short.Iff T).1 T.second (λ e. (T.small e).1) in
    let turned = rw c.in-Iff.is at (c.put_between-turned.ensures.nodes b y _ _ second) in
    let first = c.read_again-first.ensures.nodes b f T.next (formulas Short.Iff T).0 T.first (λ e. (T.small e).0) in
    let back = c.put_not_without-back.ensures.nodes b (between 13 y) x c.put_not_without-forth.result _ _ turned first in
    writes-two 7 (not_without (between 13 x) y) (not_without (between 13 y) x) forth back c.put_both.ensures)

pub close_short_two-returns-in-WeakUntil-clause-nodes : goal.close_short_two-returns-in-WeakUntil-clause-nodes
unfolding negations two_nodes
close_short_two-returns-in-WeakUntil-clause-nodes t c =
    rw c.in-WeakUntil.is
    (λ b f g n l₀ l₁ T v w.
    let x = nodes_from f in
    let y = nodes_from g in
    let until = writes-over 6 (both 9 x y) (writes-two 9 x y v w c.put_both-until.ensures) c.put_over-not_until.ensures in
    let first = c.read_again-first-in-WeakUntil.ensures.nodes b f T.next (formulas Short.WeakUntil T).0 T.first (λ e. (T.small e).0) in
    let always = c.put_forever-always.ensures.nodes b x _ _ _ (writes-where (λ _. refl) c.put_strong_true-moment.ensures) first in
    c.put_not_without.ensures.nodes b (negated (both 9 x y)) (forever x) n l₀ _ until always)

pub close_short_two-returns-in-Before-clause-nodes : goal.close_short_two-returns-in-Before-clause-nodes
unfolding negations two_nodes
close_short_two-returns-in-Before-clause-nodes t c =
    rw c.in-Before.is
    (λ b f g n l₀ l₁ T v w.
    writes-over 6 (both 9 (negated (nodes_from f)) (nodes_from g)) (writes-two 9 (negated (nodes_from f)) (nodes_from g) v w c.put_both-sooner.ensures) c.put_over.ensures)

pub close_short_two-returns-in_default-clause-nodes : goal.close_short_two-returns-in_default-clause-nodes
close_short_two-returns-in_default-clause-nodes t c =
    λ b f g n l₀ l₁ T v w.
    let k = c.args.short in
    rw (either k (nodes_from f) (nodes_from g) c.in_default.not-Iff c.in_default.not-WeakUntil c.in_default.not-Before)
    (c.put_not_without-in_default.ensures.nodes b (between (short_number k) (nodes_from f)) (nodes_from g) n l₀ l₁ v w)
