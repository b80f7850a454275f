-- The rest of the lead-in, or of the loop, from no place past its end.
use borrow.Author.Tests.{lt-ltb, le-ltb}
use native.Mathlib.Omega.{arith}
use mathlib.Core.Path.{◌≡◌, ap, ◌∙◌}
use mathlib.Core.List.{List}
use Prim.Native.Nat.{ℕ, ◌+◌, ◌*◌, ◌-◌, ◌≤◌, ◌<◌, min}
use lib.ListN.{length, take, drop}
use Rattle.std.proofs.lemmas.List.{take_rest, drop_min}
use Rattle.trace.specs.Answer.{rest_of, rest_start}
use Rattle.trace.proofs.rest.Goals as goal

in_lead : (lead loop : List ℕ) (m : ℕ) → m < length lead → take (length lead - m) (drop m lead) ≡ rest_of lead loop m
unfolding rest_of
in_lead lead loop m h = simp (lt-ltb _ _ h) (take_rest lead m)

in_loop : (lead loop : List ℕ) (m k : ℕ) → length lead ≤ m → k ≡ min (m - length lead) (length loop) → take (length loop - k) (drop k loop) ≡ rest_of lead loop m
unfolding rest_of
in_loop lead loop m k h e = simp (le-ltb _ _ h) (take_rest loop k ∙ ap (λ (j : ℕ). drop j loop) e ∙ drop_min (m - length lead) loop)

starts-lead : (p q : ℕ × ℕ) (n e m : ℕ) → m < n → (p.0, m * 4 + p.1) ≡ rest_start p q n e m
unfolding rest_start
starts-lead p q n e m h = simp (lt-ltb _ _ h)

starts-loop : (p q : ℕ × ℕ) (n e m k : ℕ) → n ≤ m → k ≡ min (m - n) e → (q.0, k * 4 + q.1) ≡ rest_start p q n e m
unfolding rest_start
starts-loop p q n e m k h c = simp (le-ltb _ _ h) (ap (λ (j : ℕ). (q.0, j * 4 + q.1)) c)

pub returns-in-None : goal.returns-in-None
returns-in-None c = let a = c.args.lead in
    let b = c.args.cycle in
    let m = c.args.m.0 in
    let h : m < length a.now = omega (arith, c.in-None.ensures) in
    record { content = in_lead a.now b.now m h; start = starts-lead a.ref_ptr b.ref_ptr (length a.now) (length b.now) m h }

pub returns-in-Some : goal.returns-in-Some
returns-in-Some c = let a = c.args.lead in
    let b = c.args.cycle in
    let m = c.args.m.0 in
    let k = c.min.result in
    let h : length a.now ≤ m = omega (arith, c.in-Some.ensures) in
    let e : k ≡ min (m - length a.now) (length b.now) = omega (arith, c.in-Some.ensures, c.min.ensures) in
    record { content = in_loop a.now b.now m k h e; start = starts-loop a.ref_ptr b.ref_ptr (length a.now) (length b.now) m k h e }
