-- Laws of tables of triples: numbers and nodes, the values of nodes, and lists of nodes that grow at their end.
use Prim.Native.Nat.{ℕ, zero, suc, ◌+◌, ◌*◌, ◌/◌, ◌≤◌, ◌<◌}
use mathlib.Core.Path.{◌≡◌, refl, sym, ap, ◌∙◌}
use mathlib.Core.List.{List, [], ◌∷◌, ◌++◌}
use native.Mathlib.Omega.{arith}
use lib.ListN.{length, get_or, take, drop, take-append-drop, length-take, length-append, get_or-append}
use lib.Seq.{get_or_at}
use Rattle.std.specs.Simd.{first_chunks}
use Rattle.table.specs.Node.{Node, node, nodes_of, NodesOf, numbers_of, count, kind_at, left_at, right_at, node_at, ◌▸◌, last, look, grow}

-- ── Numbers and nodes ──

pub nodes-numbers : (ns : List Node) → nodes_of (numbers_of ns) ≡ ns
nodes-numbers [] = refl
nodes-numbers (node k l r ∷ ns) = ap (λ (ms : List Node). node k l r ∷ ms) (nodes-numbers ns)

pub length-numbers : (ns : List Node) → length (numbers_of ns) ≡ 3 * length ns
length-numbers [] = refl
length-numbers (node k l r ∷ ns) = omega (arith, length-numbers ns)

pub length-nodes : (t : List ℕ) → length (nodes_of t) ≡ count t
length-nodes [] = refl
length-nodes (k ∷ []) = refl
length-nodes (k ∷ l ∷ []) = refl
length-nodes (k ∷ l ∷ r ∷ t) = omega (arith, length-nodes t)

-- Three numbers before a list move its nodes by one.
node-past : (k l r : ℕ) (t : List ℕ) (i : ℕ) → ◌≡◌ {A = ℕ × ℕ × ℕ} (kind_at t i, left_at t i, right_at t i)
    (kind_at (k ∷ l ∷ r ∷ t) (suc i), left_at (k ∷ l ∷ r ∷ t) (suc i), right_at (k ∷ l ∷ r ∷ t) (suc i))
node-past k l r t i = cc (past (3 * i) (3 * suc i) (omega arith), past (3 * i + 1) (3 * suc i + 1) (omega arith), past (3 * i + 2) (3 * suc i + 2) (omega arith))
  where
    past : (j m : ℕ) → m ≡ suc (suc (suc j)) → get_or t j 0 ≡ get_or (k ∷ l ∷ r ∷ t) m 0
    past j m e = sym (ap (λ (n : ℕ). get_or (k ∷ l ∷ r ∷ t) n 0) e)

-- Node i of a list of numbers.
pub node_at_lem : (t : List ℕ) (i : ℕ) → 3 * i + 3 ≤ length t → get_or (nodes_of t) i (node 0 0 0) ≡ node (kind_at t i) (left_at t i) (right_at t i)
node_at_lem [] i h = absurd (omega arith)
node_at_lem (k ∷ []) i h = absurd (omega arith)
node_at_lem (k ∷ l ∷ []) i h = absurd (omega arith)
node_at_lem (k ∷ l ∷ r ∷ t) zero h = refl
node_at_lem (k ∷ l ∷ r ∷ t) (suc i) h = node_at_lem t i (omega arith) ∙ ap (λ (x : ℕ × ℕ × ℕ). node x.0 x.1 x.2) (node-past k l r t i)

-- The threes of a list of numbers.
length-chunks : (n : ℕ) (t : List ℕ) → length (first_chunks 3 n t) ≡ n
length-chunks zero t = refl
length-chunks (suc n) t = omega (arith, length-chunks n (drop 3 t))

chunk_at : (n : ℕ) (t : List ℕ) (i : ℕ) → i < n → 3 * n ≤ length t → get_or (first_chunks 3 n t) i [] ≡ kind_at t i ∷ left_at t i ∷ right_at t i ∷ []
chunk_at zero t i h l = absurd (omega arith)
chunk_at (suc n) [] i h l = absurd (omega arith)
chunk_at (suc n) (a ∷ []) i h l = absurd (omega arith)
chunk_at (suc n) (a ∷ b ∷ []) i h l = absurd (omega arith)
chunk_at (suc n) (a ∷ b ∷ c ∷ t) zero h l = refl
chunk_at (suc n) (a ∷ b ∷ c ∷ t) (suc i) h l =
    chunk_at n t i (omega arith) (omega arith) ∙ ap (λ (x : ℕ × ℕ × ℕ). x.0 ∷ x.1 ∷ x.2 ∷ []) (node-past a b c t i)

-- Node i as a loop over the threes reads it.
pub node_read : {t : List ℕ} {xs : List (List ℕ)} {k l r : ℕ} → NodesOf t xs → (i : ℕ) → i < length xs → get_or xs i [] ≡ k ∷ l ∷ r ∷ [] → node k l r ≡ node_at t i
node_read ns i h e = let f = ns.node_is i (omega (arith, ns.nodes)) in cc

pub nodes_chunks : (t : List ℕ) {xs : List (List ℕ)} → xs ≡ first_chunks 3 (length t / 3) t → NodesOf t xs
nodes_chunks t e =
    record {
      nodes = ap length e ∙ length-chunks (count t) t;
      node_is = λ i h. rw e (chunk_at (count t) t i h (omega arith));
    }

module _ {A : Type 0} (d : A) (make : (ℕ → A) → Node → A) where
  -- ── The values of nodes ──

  pub grow-append : (xs : List A) (ms ns : List Node) → grow d make xs (ms ++ ns) ≡ grow d make (grow d make xs ms) ns
  grow-append xs [] ns = refl
  grow-append xs (m ∷ ms) ns = grow-append (xs ▸ make (look d make xs) m) ms ns

  pub length-grow : (xs : List A) (ns : List Node) → length (grow d make xs ns) ≡ length xs + length ns
  length-grow xs [] = omega arith
  length-grow xs (n ∷ ns) = omega (arith, length-grow (xs ▸ make (look d make xs) n) ns, length-append xs (make (look d make xs) n ∷ []))

  -- Later nodes change no value.
  pub grow-kept : (xs : List A) (ns : List Node) (i : ℕ) → i < length xs → look d make (grow d make xs ns) i ≡ look d make xs i
  grow-kept xs [] i h = refl
  grow-kept xs (n ∷ ns) i h =
      let x = make (look d make xs) n in
      grow-kept (xs ▸ x) ns i (omega (arith, length-append xs (x ∷ []))) ∙ get_or-append xs (x ∷ []) d i h

  -- A node's value, by the values of the nodes before it.
  grow-node : (ns : List Node) (xs : List A) (i : ℕ) → i < length ns
      → look d make (grow d make xs ns) (length xs + i) ≡ make (look d make (grow d make xs (take i ns))) (get_or ns i (node 0 0 0))
  grow-node [] xs i h = absurd (omega arith)
  grow-node (n ∷ ns) xs zero h =
      let x = make (look d make xs) n in
      grow-kept (xs ▸ x) ns (length xs + 0) (omega (arith, length-append xs (x ∷ []))) ∙ get_or_at xs x [] d (length xs + 0) (omega arith)
  grow-node (n ∷ ns) xs (suc i) h =
      let x = make (look d make xs) n in
      ap (look d make (grow d make (xs ▸ x) ns)) (omega (arith, length-append xs (x ∷ []))) ∙ grow-node ns (xs ▸ x) i (omega arith)

  -- The values before a node are the whole table's.
  pub look-take : (ns : List Node) (i j : ℕ) → j < i → i ≤ length ns
      → look d make (grow d make [] (take i ns)) j ≡ look d make (grow d make [] ns) j
  look-take ns i j h l =
      let e : grow d make [] ns ≡ grow d make (grow d make [] (take i ns)) (drop i ns) =
      ap (grow d make []) (sym (take-append-drop i ns)) ∙ grow-append [] (take i ns) (drop i ns) in
      sym (ap (λ (ys : List A). look d make ys j) e
      ∙ grow-kept (grow d make [] (take i ns)) (drop i ns) j (omega (arith, length-grow [] (take i ns), length-take i ns)))

  pub value_node : (ns : List Node) (i : ℕ) → i < length ns
      → look d make (grow d make [] ns) i ≡ make (look d make (grow d make [] (take i ns))) (get_or ns i (node 0 0 0))
  value_node ns i h = ap (look d make (grow d make [] ns)) (omega arith) ∙ grow-node ns [] i h

  -- ── A list of nodes that grows at its end ──

  -- Node i of a list has the value x.
  pub record Named (ns : List Node) (i : ℕ) (x : A) : Type 0 where
    pub below : i < length ns
    pub is : look d make (grow d make [] ns) i ≡ x

  -- From ns to ms: each named node keeps its value, and the last of ms has the value x.
  pub record Grown (ns ms : List Node) (x : A) : Type 0 where
    pub kept : (i : ℕ) (y : A) → Named ns i y → Named ms i y
    pub named : Named ms (last ms) x

  pub grown_one : (ns : List Node) (n : Node) (x : A) → make (look d make (grow d make [] ns)) n ≡ x → Grown ns (ns ▸ n) x
  grown_one ns n x e =
      let xs = grow d make [] ns in
      let y = make (look d make xs) n in
      let g : grow d make [] (ns ▸ n) ≡ xs ▸ y = grow-append [] ns (n ∷ []) in
      let s = length-grow [] ns in
      let l = length-append ns (n ∷ []) in
      record {
        kept = λ i z h.
            record {
              below = omega (arith, l, h.below);
              is = ap (λ (ys : List A). look d make ys i) g ∙ get_or-append xs (y ∷ []) d i (omega (arith, s, h.below)) ∙ h.is;
            };
        named =
            record {
              below = omega (arith, l);
              is = ap (λ (ys : List A). look d make ys (last (ns ▸ n))) g ∙ get_or_at xs y [] d (last (ns ▸ n)) (omega (arith, s, l)) ∙ e;
            };
      }

  pub grown_join : {ns ms ps : List Node} {x y : A} → Grown ns ms x → Grown ms ps y → Grown ns ps y
  grown_join p q = record { kept = λ i z h. q.kept i z (p.kept i z h); named = q.named }
