-- The arms of the translator's walk: the room that each asks for, and what it stores.
use mathlib.Core.Path.{◌≡◌, refl, sym, ap, subst, ◌∙◌}
use Prim.Native.Nat.{ℕ, ◌+◌, ◌<◌}
use native.Mathlib.Omega.{arith}
use Rattle.table.specs.Node.{Node, ◌▸◌}
use Rattle.logic.specs.Formula.{BoolExpr, btrue, var, bnot, band, Formula, weak, strong, fnot, fand, next, until, abort}
use Rattle.psl.specs.Size.{weigh_b, weigh}
use Rattle.ltl.specs.Table.{true_node, var_node, not_node, and_node, next_node, until_node}
use Rattle.translate.specs.declared.writer.Writer.{Writer}
use Rattle.translate.specs.Emitted.{added_by, walked_b, gated, walked}
use Rattle.translate.specs.Inner.Stored.{Walks}
use Rattle.translate.proofs.StoredLaw.{walks_on, walks_as, walks_then, walks_both}

-- One node n was stored.
abbrev pub Node1 : Node → Writer → Writer → ℕ → Type 0
Node1 n old now m = Walks 1 (λ ns. ns ▸ n) old now m

abbrev pub WalksB : BoolExpr → Writer → Writer → ℕ → Type 0
WalksB b old now m = Walks (weigh_b added_by b) (walked_b b) old now m

abbrev pub WalksGated : BoolExpr → ℕ → ℕ → Writer → Writer → ℕ → Type 0
WalksGated b a r old now m = Walks (weigh_b added_by b + 3) (λ ns. gated a r (walked_b b ns)) old now m

abbrev pub WalksF : Formula → ℕ → ℕ → Writer → Writer → ℕ → Type 0
WalksF f a r old now m = Walks (weigh added_by f) (walked f a r) old now m

-- ── Weights ──

pub weight_true : {b : BoolExpr} → b ≡ btrue → weigh_b added_by b ≡ 1
unfolding weigh_b added_by
weight_true e = ap (weigh_b added_by) e

pub weight_var : {b : BoolExpr} {k : ℕ} → b ≡ var k → weigh_b added_by b ≡ 1
unfolding weigh_b added_by
weight_var e = ap (weigh_b added_by) e

pub weight_bnot : {b c : BoolExpr} → b ≡ bnot c → weigh_b added_by b ≡ weigh_b added_by c + 1
unfolding weigh_b added_by
weight_bnot e = ap (weigh_b added_by) e ∙ omega arith

pub weight_band : {b c d : BoolExpr} → b ≡ band c d → weigh_b added_by b ≡ weigh_b added_by c + weigh_b added_by d + 1
unfolding weigh_b added_by
weight_band e = ap (weigh_b added_by) e ∙ omega arith

pub weight_weak : {f : Formula} {b : BoolExpr} → f ≡ weak b → weigh added_by f ≡ weigh_b added_by b + 3
unfolding weigh added_by
weight_weak e = ap (weigh added_by) e ∙ omega arith

pub weight_strong : {f : Formula} {b : BoolExpr} → f ≡ strong b → weigh added_by f ≡ weigh_b added_by b + 3
unfolding weigh added_by
weight_strong e = ap (weigh added_by) e ∙ omega arith

pub weight_not : {f g : Formula} → f ≡ fnot g → weigh added_by f ≡ weigh added_by g + 1
unfolding weigh added_by
weight_not e = ap (weigh added_by) e ∙ omega arith

pub weight_and : {f g h : Formula} → f ≡ fand g h → weigh added_by f ≡ weigh added_by g + weigh added_by h + 1
unfolding weigh added_by
weight_and e = ap (weigh added_by) e ∙ omega arith

pub weight_until : {f g h : Formula} → f ≡ until g h → weigh added_by f ≡ weigh added_by g + weigh added_by h + 1
unfolding weigh added_by
weight_until e = ap (weigh added_by) e ∙ omega arith

pub weight_next : {f g : Formula} → f ≡ next g → weigh added_by f ≡ weigh added_by g + 1 + 3
unfolding weigh added_by
weight_next e = ap (weigh added_by) e ∙ omega arith

pub weight_abort : {f g : Formula} {b : BoolExpr} → f ≡ abort g b → weigh added_by f ≡ weigh_b added_by b + 3 + weigh added_by g
unfolding weigh added_by
weight_abort e = ap (weigh added_by) e ∙ omega arith

pub weight_b_pos : (b : BoolExpr) → 0 < weigh_b added_by b
unfolding weigh_b added_by
weight_b_pos btrue = omega arith
weight_b_pos (var k) = omega arith
weight_b_pos (bnot b) = omega arith
weight_b_pos (band b c) = omega arith

pub weight_pos : (f : Formula) → 0 < weigh added_by f
unfolding weigh added_by
weight_pos (weak b) = omega arith
weight_pos (strong b) = omega arith
weight_pos (fnot f) = omega arith
weight_pos (fand f g) = omega arith
weight_pos (next f) = omega arith
weight_pos (until f g) = omega arith
weight_pos (abort f b) = omega arith

-- ── What is stored ──

as_boolean_lem : {b c : BoolExpr} {old now : Writer} {m : ℕ} → b ≡ c → WalksB c old now m → WalksB b old now m
as_boolean_lem {old = old} {now = now} {m = m} e w = subst (λ (d : BoolExpr). WalksB d old now m) (sym e) w

as_formula_lem : (a r : ℕ) {f g : Formula} {old now : Writer} {m : ℕ} → f ≡ g → WalksF g a r old now m → WalksF f a r old now m
as_formula_lem a r {old = old} {now = now} {m = m} e w = subst (λ (h : Formula). WalksF h a r old now m) (sym e) w

pub arm_true : {b : BoolExpr} {old now : Writer} {m : ℕ} → b ≡ btrue → Node1 true_node old now m → WalksB b old now m
unfolding walked_b weigh_b added_by
arm_true e w = as_boolean_lem e w

pub arm_var : {b : BoolExpr} {k : ℕ} {old now : Writer} {m : ℕ} → b ≡ var k → Node1 (var_node k) old now m → WalksB b old now m
unfolding walked_b weigh_b added_by
arm_var e w = as_boolean_lem e w

pub arm_bnot : {b c : BoolExpr} {old mid now : Writer} {m p : ℕ} → b ≡ bnot c → WalksB c old mid m → Node1 (not_node m) mid now p → WalksB b old now p
unfolding walked_b
arm_bnot e w v = as_boolean_lem e (walks_then (λ i ns. ns ▸ not_node i) (weight_bnot refl) w v)

pub arm_band : {b c d : BoolExpr} {old mid mid' now : Writer} {m p q : ℕ} → b ≡ band c d → WalksB c old mid m → WalksB d mid mid' p
    → Node1 (and_node m p) mid' now q → WalksB b old now q
unfolding walked_b
arm_band e w v u = as_boolean_lem e (walks_both (λ i j ns. ns ▸ and_node i j) (weight_band refl) w v u)

pub arm_weak : (a r : ℕ) {f : Formula} {b : BoolExpr} {old now : Writer} {m : ℕ} → f ≡ weak b → WalksGated b a r old now m → WalksF f a r old now m
unfolding walked
arm_weak a r e w = as_formula_lem a r e (walks_as (weight_weak refl) (λ l ns s. refl) w)

pub arm_strong : (a r : ℕ) {f : Formula} {b : BoolExpr} {old now : Writer} {m : ℕ} → f ≡ strong b → WalksGated b a r old now m → WalksF f a r old now m
unfolding walked
arm_strong a r e w = as_formula_lem a r e (walks_as (weight_strong refl) (λ l ns s. refl) w)

pub arm_not : (a r : ℕ) {f g : Formula} {old mid now : Writer} {m p : ℕ} → f ≡ fnot g → WalksF g r a old mid m → Node1 (not_node m) mid now p → WalksF f a r old now p
unfolding walked
arm_not a r e w v = as_formula_lem a r e (walks_then (λ i ns. ns ▸ not_node i) (weight_not refl) w v)

pub arm_and : (a r : ℕ) {f g h : Formula} {old mid mid' now : Writer} {m p q : ℕ} → f ≡ fand g h → WalksF g a r old mid m → WalksF h a r mid mid' p
    → Node1 (and_node m p) mid' now q → WalksF f a r old now q
unfolding walked
arm_and a r e w v u = as_formula_lem a r e (walks_both (λ i j ns. ns ▸ and_node i j) (weight_and refl) w v u)

pub arm_until : (a r : ℕ) {f g h : Formula} {old mid mid' now : Writer} {m p q : ℕ} → f ≡ until g h → WalksF g a r old mid m → WalksF h a r mid mid' p
    → Node1 (until_node m p) mid' now q → WalksF f a r old now q
unfolding walked
arm_until a r e w v u = as_formula_lem a r e (walks_both (λ i j ns. ns ▸ until_node i j) (weight_until refl) w v u)

pub arm_next : (a r : ℕ) {f g : Formula} {old mid mid' now : Writer} {m p q : ℕ} → f ≡ next g → WalksF g a r old mid m → Node1 (next_node m) mid mid' p
    → Walks 3 (gated a r) mid' now q → WalksF f a r old now q
unfolding walked
arm_next a r e w v u = as_formula_lem a r e (walks_as (weight_next refl) (λ l ns s. refl) (walks_on (walks_then (λ i ns. ns ▸ next_node i) refl w v) u))

pub arm_abort : (a r : ℕ) {f g : Formula} {b : BoolExpr} {old mid now : Writer} {m p : ℕ} → f ≡ abort g b → WalksGated b a r old mid m → WalksF g m r mid now p
    → WalksF f a r old now p
unfolding walked
arm_abort a r {g = g} e w v = as_formula_lem a r e (walks_then (λ i. walked g i r) (weight_abort refl) w v)
