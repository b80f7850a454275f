-- Formulas as suppliers write them, with the eight short forms, and how each is spelled out (document 002, definition 8).
use Rattle.logic.specs.Formula.{BoolExpr, btrue, Formula, weak, strong, fnot, fand, next, until, abort}

pub data Written : Type 0 where
  Weak Strong : BoolExpr → Written
  Not : Written → Written
  And : Written → Written → Written
  Next : Written → Written
  Until : Written → Written → Written
  Abort : Written → BoolExpr → Written
  Or Implies Iff : Written → Written → Written
  WeakNext Eventually Always : Written → Written
  WeakUntil Before : Written → Written → Written

-- ── The short forms ──

abbrev pub or : Formula → Formula → Formula
or f g = fnot (fand (fnot f) (fnot g))

abbrev pub implies : Formula → Formula → Formula
implies f g = or (fnot f) g

abbrev pub iff : Formula → Formula → Formula
iff f g = fand (implies f g) (implies g f)

abbrev pub weak_next : Formula → Formula
weak_next f = fnot (next (fnot f))

abbrev pub eventually : Formula → Formula
eventually f = until (strong btrue) f

abbrev pub always : Formula → Formula
always f = fnot (eventually (fnot f))

abbrev pub weak_until : Formula → Formula → Formula
weak_until f g = or (until f g) (always f)

abbrev pub before : Formula → Formula → Formula
before f g = fnot (until (fnot f) g)

-- A written formula, spelled out.
unfoldable pub spelled_out : Written → Formula
spelled_out (Weak b) = weak b
spelled_out (Strong b) = strong b
spelled_out (Not f) = fnot (spelled_out f)
spelled_out (And f g) = fand (spelled_out f) (spelled_out g)
spelled_out (Next f) = next (spelled_out f)
spelled_out (Until f g) = until (spelled_out f) (spelled_out g)
spelled_out (Abort f b) = abort (spelled_out f) b
spelled_out (Or f g) = or (spelled_out f) (spelled_out g)
spelled_out (Implies f g) = implies (spelled_out f) (spelled_out g)
spelled_out (Iff f g) = iff (spelled_out f) (spelled_out g)
spelled_out (WeakNext f) = weak_next (spelled_out f)
spelled_out (Eventually f) = eventually (spelled_out f)
spelled_out (Always f) = always (spelled_out f)
spelled_out (WeakUntil f g) = weak_until (spelled_out f) (spelled_out g)
spelled_out (Before f g) = before (spelled_out f) (spelled_out g)
