-- `many` meets its contract: a refused file decides, then the lookups.
use Rattle.refusal.specs.Numbered.{number_of}
use Rattle.refusal.proofs.Coded.{never_0, passed_on}
use Rattle.file_lookups.proofs.Finding.{many_none, many_found}
use Rattle.file_lookups.proofs.many.Goals as goal

pub returns-in_err-s : goal.returns-in_err-s
returns-in_err-s c =
    let a = c.args in
    let e = c.in_err-s.field-0.0 in
    rw (passed_on _ e c.from_residual.ensures.1) (many_none a.file.now (number_of e) c.in_err-s.ensures.number (never_0 e) a.locations.now a.out.now)

pub returns : goal.returns
returns c = let a = c.args in many_found a.file.now _ c.in_ok-s.ensures a.locations.now a.out.now _ _ c.write.ensures
