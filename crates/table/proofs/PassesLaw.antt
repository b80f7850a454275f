-- A list of nodes, each of which passes the rules, makes a table that is not refused.
use Prim.Native.Nat.{ℕ, ◌%◌, ◌≤◌, ◌<◌}
use mathlib.Core.Path.{◌≡◌, refl, sym, ap, subst, ◌∙◌}
use mathlib.Core.Bool.{Bool, true}
use mathlib.Core.List.{List, [], ◌∷◌}
use mathlib.Core.Option.{none}
use native.Mathlib.Omega.{arith}
use native.Mathlib.Decide.{dec_lt}
use borrow.Author.Tests.{eq-eqb, lt-ltb, le-leb}
use lib.ListN.{length, get_or, length-append, get_or-append}
use lib.Seq.{get_or_at}
use Rattle.table.specs.Node.{Node, node, numbers_of, count, kind_at, left_at, right_at, node_at, ◌▸◌}
use Rattle.table.specs.Rules.{Rules, shape_of, boolean_kind}
use Rattle.table.specs.Check.{length_fits, is_boolean, refusal_at, table_refusal}
use Rattle.table.proofs.NodeLaw.{nodes-numbers, length-numbers, node_at_lem}
use Rattle.table.proofs.CheckLaw.{Fits, fit_below, fits-same, Sound, node-none, none-refused, refused_none}

-- ── Nodes by their numbers ──

abbrev pub node_of : List Node → ℕ → Node
node_of ns i = get_or ns i (node 0 0 0)

pub node_old : (ns : List Node) (x : Node) (i : ℕ) → i < length ns → node_of (ns ▸ x) i ≡ node_of ns i
node_old ns x i h = get_or-append ns (x ∷ []) (node 0 0 0) i h

pub node_new : (ns : List Node) (x : Node) → node_of (ns ▸ x) (length ns) ≡ x
node_new ns x = get_or_at ns x [] (node 0 0 0) (length ns) refl

-- ── Nodes that pass ──

module _ (R : Rules) where
  abbrev pub is_bool : Node → Bool
  is_bool (node k l r) = boolean_kind R.sorts k

  -- Node i passes the tests of the check.
  abbrev pub Passes : List Node → ℕ → Node → Type 0
  Passes ns i (node k l r) =
      (k < length R.kinds) × Fits R (shape_of R k).0 l i (is_bool (node_of ns l)) × Fits R (shape_of R k).1 r i (is_bool (node_of ns r))

  -- All nodes do, from node a on.
  pub record PassFrom (a : ℕ) (ns : List Node) : Type 0 where
    pub at : (i : ℕ) → a ≤ i → i < length ns → Passes ns i (node_of ns i)

  -- A node still passes where the nodes before it are the same.
  passes_kept : (ms ps : List Node) → ((i : ℕ) → i < length ms → node_of ps i ≡ node_of ms i)
      → (i : ℕ) (n : Node) → i ≤ length ms → Passes ms i n → Passes ps i n
  passes_kept ms ps e i (node k l r) h (a, f, g) = (
    a,
    fits-same f (λ d. ap is_bool (e l (omega (arith, fit_below f d)))),
    fits-same g (λ d. ap is_bool (e r (omega (arith, fit_below g d)))),
  )

  -- From a on, and then from the end of ms on, in a list that begins with ms.
  pub pass_join : {a : ℕ} {ms ps : List Node} → ((i : ℕ) → i < length ms → node_of ps i ≡ node_of ms i) → PassFrom a ms → PassFrom (length ms) ps → PassFrom a ps
  pass_join {a} {ms} {ps} e f g =
      record {
        at = λ i h l. elim (dec_lt i (length ms)) [
          | yes d ↦ subst (Passes ps i) (sym (e i d)) (passes_kept ms ps e i (node_of ms i) (omega arith) (f.at i h d))
          | no d ↦ g.at i (omega arith) l
        ];
      }

  pub pass_none : PassFrom 0 []
  pass_none = record { at = λ i a h. absurd (omega arith) }

  pub pass_more : {a : ℕ} {ns : List Node} (x : Node) → PassFrom a ns → Passes ns (length ns) x → PassFrom a (ns ▸ x)
  pass_more {a} {ns} x f p = record { at = at }
    where
      same : (i : ℕ) (n : Node) → i ≤ length ns → Passes ns i n → Passes (ns ▸ x) i n
      same = passes_kept ns (ns ▸ x) (node_old ns x)

      at : (i : ℕ) → a ≤ i → i < length (ns ▸ x) → Passes (ns ▸ x) i (node_of (ns ▸ x) i)
      at i h l =
          elim (dec_lt i (length ns)) [
            | yes d ↦ subst (Passes (ns ▸ x) i) (sym (node_old ns x i d)) (same i (node_of ns i) (omega arith) (f.at i h d))
            | no d ↦
                let z : length ns ≡ i = omega (arith, length-append ns (x ∷ [])) in
                subst (λ (n : ℕ). Passes (ns ▸ x) n (node_of (ns ▸ x) n)) z
                (subst (Passes (ns ▸ x) (length ns)) (sym (node_new ns x)) (same (length ns) x (omega arith) p))
          ]

-- ── The table of a list of nodes ──

module _ (ns : List Node) where
  pub count-numbers : count (numbers_of ns) ≡ length ns
  count-numbers = omega (arith, length-numbers ns)

  pub node-numbers : (i : ℕ) → i < length ns → node_of ns i ≡ node_at (numbers_of ns) i
  node-numbers i h = ap (λ (ms : List Node). node_of ms i) (sym (nodes-numbers ns)) ∙ node_at_lem (numbers_of ns) i (omega (arith, length-numbers ns))

module _ (R : Rules) (ns : List Node) where
  abbrev t : List ℕ
  t = numbers_of ns

  pub sort_numbers : (i : ℕ) → i < length ns → is_boolean R t i ≡ is_bool R (node_of ns i)
  sort_numbers i h = ap (is_bool R) (sym (node-numbers ns i h))

  module _ (f : PassFrom R 0 ns) where
    sound : (i : ℕ) → i < length ns → Sound R t i
    sound i h =
        let p = subst (Passes R ns i) (node-numbers ns i h) (f.at i (omega arith) h) in
        record {
          kind = lt-ltb (kind_at t i) (length R.kinds) p.0;
          left = fits-same p.1 (λ d. sort_numbers (left_at t i) (omega (arith, fit_below p.1 d)));
          right = fits-same p.2 (λ d. sort_numbers (right_at t i) (omega (arith, fit_below p.2 d)));
        }

    pub nodes_pass : 0 < length ns → length ns ≤ R.most → table_refusal R t ≡ none
    nodes_pass some few =
        refused_none R t fits (count t) refl
        (none-refused (refusal_at R t) (count t) (λ i h. node-none R t i (sound i (omega (arith, count-numbers ns)))))
      where
        fits : length_fits R.most (length t) ≡ true
        fits =
            rw (
              eq-eqb (length t % 3) 0 (omega (arith, length-numbers ns)),
              lt-ltb 0 (count t) (omega (arith, count-numbers ns)),
              le-leb (count t) R.most (omega (arith, count-numbers ns)),
            )
