-- A node stored behind those that are there, and walks one after the other.
use mathlib.Core.Path.{◌≡◌, refl, sym, ap, subst, ◌∙◌}
use mathlib.Core.List.{List, [], ◌∷◌}
use Prim.Native.Nat.{ℕ, suc, ◌+◌, ◌*◌, ◌≤◌}
use native.Mathlib.Omega.{arith}
use lib.ListN.{length, set}
use lib.Seq.{sets}
use Rattle.table.specs.Node.{Node, node, numbers_of, ◌▸◌, last}
use Rattle.std.proofs.SliceLists.{length_more}
use Rattle.table.proofs.NodeLaw.{length-numbers}
use Rattle.table.proofs.StoreLaw.{sets-sets, numbers_more}
use Rattle.ltl.specs.Table.{not_node, and_node, or_node}
use Rattle.translate.specs.declared.writer.Writer.{Writer}
use Rattle.translate.specs.Emitted.{gated}
use Rattle.translate.specs.Inner.Stored.{Stored, Room, Walks}

-- Where there is room for k nodes, there is room for some of them, and after a walk for the others.
pub room_part : {k v : ℕ} {w : Writer} → Room k w → v ≤ k → Room v w
room_part R h = record { space = omega (arith, R.space); fits = omega (arith, R.fits) }

pub room_after : {k j v m : ℕ} {f : List Node → List Node} {old now : Writer} → Room k old → Walks j f old now m → j + v ≤ k → Room v now
room_after R a h = record { space = omega (arith, R.space, a.more, a.sized); fits = omega (arith, R.fits, a.more) }

-- Three stores at the node behind those that are there.
pub stored_more : {l : List ℕ} {ns : List Node} {old now : Writer} (k x y : ℕ) → Stored l ns old → now.nodes ≡ old.nodes + 1
    → now.out.now ≡ set (set (set old.out.now (3 * old.nodes) k) (3 * old.nodes + 1) x) (3 * old.nodes + 2) y → Stored l (ns ▸ node k x y) now
stored_more {l} {ns} {old} {now} k x y h n c =
    let at = 3 * old.nodes in
    let second : suc at ≡ at + 1 = omega arith in
    let third : suc (suc at) ≡ at + 2 = omega arith in
    let same : sets old.out.now at (k ∷ x ∷ y ∷ []) ≡ now.out.now = cc in
    let z : 0 + length (numbers_of ns) ≡ at = omega (arith, length-numbers ns, h.count) in
    let e : sets l 0 (numbers_of (ns ▸ node k x y)) ≡ sets old.out.now at (k ∷ x ∷ y ∷ []) =
    ap (sets l 0) (numbers_more ns k x y) ∙ sym (sets-sets (numbers_of ns) (k ∷ x ∷ y ∷ []) l 0 at z)
    ∙ ap (λ (m : List ℕ). sets m at (k ∷ x ∷ y ∷ [])) (sym h.is) in
    record { count = omega (arith, length_more ns (node k x y), h.count); is = sym (e ∙ same) }

-- ── Walks one after the other ──

-- What was stored has the number of its last node.
numbered : {l : List ℕ} {ns : List Node} {w : Writer} {m : ℕ} → Stored l ns w → m + 1 ≡ w.nodes → m ≡ last ns
numbered S e = omega (arith, S.count)

-- A walk, then another.
pub walks_on : {w v m p : ℕ} {f g : List Node → List Node} {old mid now : Writer} → Walks w f old mid m → Walks v g mid now p → Walks (w + v) (λ ns. g (f ns)) old now p
walks_on {f = f} a b = record {
  last = b.last;
  more = omega (arith, a.more, b.more);
  stores = λ l ns h. b.stores l (f ns) (a.stores l ns h);
  sized = b.sized ∙ a.sized;
  same_list = b.same_list ∙ a.same_list;
}

-- A walk whose steps agree on all that the writer can have stored, with its size.
pub walks_as : {w v m : ℕ} {f g : List Node → List Node} {old now : Writer} → v ≡ w
    → ((l : List ℕ) (ns : List Node) → Stored l ns old → f ns ≡ g ns) → Walks w f old now m → Walks v g old now m
walks_as {now = now} z e a = record {
  last = a.last;
  more = omega (arith, a.more);
  stores = λ l ns h. subst (λ (ms : List Node). Stored l ms now) (e l ns h) (a.stores l ns h);
  sized = a.sized;
  same_list = a.same_list;
}

-- A walk, then one that goes on from the number of its last node.
pub walks_then : {u w v m p : ℕ} {f : List Node → List Node} (g : ℕ → List Node → List Node) {old mid now : Writer} → u ≡ w + v
    → Walks w f old mid m → Walks v (g m) mid now p → Walks u (λ ns. g (last (f ns)) (f ns)) old now p
walks_then {m = m} {f = f} g z a b =
    walks_as z (λ l ns h. ap (λ (k : ℕ). g k (f ns)) (numbered (a.stores l ns h) a.last)) (walks_on a b)

-- Two walks, then one that goes on from the numbers of both last nodes.
pub walks_both : {x w v u m p q : ℕ} {f g : List Node → List Node} (h : ℕ → ℕ → List Node → List Node) {old mid mid' now : Writer}
    → x ≡ w + v + u → Walks w f old mid m → Walks v g mid mid' p → Walks u (h m p) mid' now q
    → Walks x (λ ns. h (last (f ns)) (last (g (f ns))) (g (f ns))) old now q
walks_both {m = m} {p = p} {f = f} {g = g} h z a b c =
    walks_as z (λ l ns s. let i = a.stores l ns s in ap (λ (k : ℕ). h k p (g (f ns))) (numbered i a.last) ∙ ap (λ (k : ℕ). h (last (f ns)) k (g (f ns))) (numbered (b.stores l (f ns) i) b.last))
    (walks_on (walks_on a b) c)

pub walks-gate : {a r n p q m : ℕ} {old mid mid' now : Writer} → n + 1 ≡ old.nodes → Walks 1 (λ ns. ns ▸ not_node r) old mid p
    → Walks 1 (λ ns. ns ▸ and_node n p) mid mid' q → Walks 1 (λ ns. ns ▸ or_node a q) mid' now m → Walks 3 (gated a r) old now m
walks-gate {a} {r} {n} {p} {q} {m} {old} {mid} {mid'} {now} e f g h =
    walks_as refl (λ l ns s.
    let u = f.stores l ns s in
    let v = g.stores l (ns ▸ not_node r) u in
    let x : n ≡ last ns = numbered s e in
    let y : p ≡ last (ns ▸ not_node r) = numbered u f.last in
    let z : q ≡ last (ns ▸ not_node r ▸ and_node n p) = numbered v g.last in
    cc) (walks_on (walks_on f g) h)

-- A walk of another writer over the same list, whose nodes and numbers go back to the first.
pub walks_lent : {k m : ℕ} {f : List Node → List Node} {old now first then : Writer} → first.nodes ≡ old.nodes → first.out.now ≡ old.out.now
    → now.nodes ≡ then.nodes → now.out.now ≡ then.out.now → now.out.ghost_name ≡ old.out.ghost_name → Walks k f first then m → Walks k f old now m
walks_lent n o p q same a = record {
  last = omega (arith, a.last);
  more = omega (arith, a.more);
  stores = λ l ns h. let s = a.stores l ns (record { count = n ∙ h.count; is = o ∙ h.is }) in record { count = p ∙ s.count; is = q ∙ s.is };
  sized = ap length q ∙ a.sized ∙ ap length o;
  same_list = same;
}
