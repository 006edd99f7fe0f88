-- `extent_of` meets its contract: the ends of the points, and R0 by twice the area that they enclose.
use native.Mathlib.Omega.{arith}
use Rattle.extent.proofs.Ends.{extent_none, small, extent_some}
use Rattle.extent.proofs.extent_of.Goals as goal

pub returns-then-m-eq0 : goal.returns-then-m-eq0
returns-then-m-eq0 c = record {
  result_value = extent_none _ _ _ _ _ c.clamped-m.ensures _ c.if-m-eq0.true c.zeros.ensures.0;
  radius_bound = c.zeros.ensures.1;
}

pub radius_of-requires : goal.radius_of-requires
radius_of-requires c =
    let m = c in
    let h = small _ _ _ _ _ m.clamped-m.ensures (omega arith) _ c.ends_of-e.ensures _ c.enclosed-twice.ensures in
    (omega arith, omega arith, omega (arith, m.clamped-m.ensures))

pub returns : goal.returns
returns c =
    let e = extent_some _ _ _ _ _ c.clamped-m.ensures (omega arith) _ c.ends_of-e.ensures _ _ c.enclosed-twice.ensures c.radius_of.ensures.0 in
    record { result_value = e.0; radius_bound = e.1 }
