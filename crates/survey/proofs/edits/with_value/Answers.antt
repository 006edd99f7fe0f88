-- `with_value` meets its contract: what is written over in each array is written over in the points.
use native.Mathlib.Omega.{arith}
use mathlib.Core.Path.{refl}
use mir.Facts.{to_z-of_z}
use borrow.Author.Rules.{rules}
use Rattle.point_arrays.proofs.EditLaws.{Sized}
use Rattle.survey.proofs.Calling.{sound_fits}
use Rattle.survey.proofs.Becoming.{points_held, becomes_over}
use Rattle.survey.proofs.edits.with_value.Goals as goal

pub overflow_cast-t : goal.overflow_cast-t
overflow_cast-t c =
    let a = c.args in
    let f = sound_fits a.x a.y a.z c.requires.1 in
    omega (arith, f.fits_x, f.fits_y)

pub offset_bounds-t-i : goal.offset_bounds-t-i
offset_bounds-t-i c = omega (arith, points_held c.args.s, c.requires.0)

pub bounds-t-i : goal.bounds-t-i
bounds-t-i c = omega (arith, points_held c.args.s, c.requires.0)

pub overflow_cast-t-2 : goal.overflow_cast-t-2
overflow_cast-t-2 c =
    let a = c.args in
    let f = sound_fits a.x a.y a.z c.requires.1 in
    omega (arith, f.fits_x, f.fits_y)

pub offset_bounds-t-i-2 : goal.offset_bounds-t-i-2
offset_bounds-t-i-2 c = omega (arith, points_held c.args.s, c.requires.0)

pub bounds-t-i-2 : goal.bounds-t-i-2
bounds-t-i-2 c = omega (arith, points_held c.args.s, c.requires.0)

pub overflow_cast-t-3 : goal.overflow_cast-t-3
overflow_cast-t-3 c = let a = c.args in rw (to_z-of_z c.ranges.z) (sound_fits a.x a.y a.z c.requires.1).fits_z

pub bounds-t-i-3 : goal.bounds-t-i-3
bounds-t-i-3 c = omega (arith, points_held c.args.s, c.requires.0)

pub returns : goal.returns
returns c =
    let a = c.args in
    let f = sound_fits a.x a.y a.z c.requires.1 in
    let e : Sized a.s.x a.s.y a.s.z = search rules in
    becomes_over a.s _ e a.i a.x a.y a.z c.requires.0 f.fits_x f.fits_y refl refl (rw (to_z-of_z c.ranges.z, to_z-of_z f.fits_z)) refl
