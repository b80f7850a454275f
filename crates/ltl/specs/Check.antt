-- What the LTL check refuses.
use Rattle.std.specs.Prelude.{◌≡◌, true, List, [], ◌∷◌, ℕ}
use Rattle.std.proofs.Math.Option.{Option, none}
use Rattle.trace.specs.declared.refusal.Refusal.{Refusal}
use Rattle.trace.specs.declared.refusal.Refusal.TheVariants.{LtlLength, LtlKind, LtlUnused, LtlSignal, LtlOperand}
use Rattle.table.specs.Rules.{unused, signal, formula, is_operand, Rules, shape_of}
use Rattle.table.specs.Check.{table_refusal}

-- What stands left and right, kind by kind. All are formulas, so that no operand is of the wrong sort.
abbrev pub ltl_rules : Rules
ltl_rules =
    record {
      kinds =
          (unused, unused)  -- 0 true
          ∷ (signal, unused)  -- 1 var
          ∷ (formula, unused)  -- 2 not
          ∷ (formula, formula)  -- 3 and
          ∷ (formula, formula)  -- 4 or
          ∷ (formula, unused)  -- 5 next
          ∷ (formula, formula)  -- 6 until
          ∷ [];
      most = 4096;
      refusals = record { length = LtlLength; kind = LtlKind; unused = LtlUnused; signal = LtlSignal; operand = LtlOperand };
      sorts = none;
    }

-- A kind that has an operand left, and one that has one right.
abbrev pub LeftOperand : ℕ → Type 0
LeftOperand k = is_operand (shape_of ltl_rules k).0 ≡ true

abbrev pub RightOperand : ℕ → Type 0
RightOperand k = is_operand (shape_of ltl_rules k).1 ≡ true

abbrev pub ltl_refusal : List ℕ → Option Refusal
ltl_refusal t = table_refusal ltl_rules t
