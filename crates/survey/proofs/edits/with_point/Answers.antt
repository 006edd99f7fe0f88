-- `with_point` meets its contract: what is put into each array is put into the points.
use native.Mathlib.Omega.{arith}
use mathlib.Core.Path.{refl}
use mir.Facts.{to_z-of_z}
use borrow.Author.Rules.{rules}
use Rattle.point_arrays.proofs.EditLaws.{Sized}
use Rattle.survey.proofs.Calling.{sound_fits}
use Rattle.survey.proofs.Becoming.{points_held, becomes_put}
use Rattle.survey.proofs.edits.with_point.Goals as goal

pub overflow_cast-x : goal.overflow_cast-x
overflow_cast-x c =
    let b = c in
    let a = b.args in
    omega (arith, (sound_fits a.x a.y a.z b.requires.2).fits_x)

pub overflow_cast-y : goal.overflow_cast-y
overflow_cast-y c =
    let b = c in
    let a = b.args in
    omega (arith, (sound_fits a.x a.y a.z b.requires.2).fits_y)

pub overflow_cast-z : goal.overflow_cast-z
overflow_cast-z c =
    let b = c in
    let a = b.args in
    rw (to_z-of_z b.ranges.z) (sound_fits a.x a.y a.z b.requires.2).fits_z

pub overflow_add-t : goal.overflow_add-t
overflow_add-t c =
    let b = c in
    omega (arith, points_held b.args.s, b.requires.1)

pub returns : goal.returns
returns c =
    let b = c in
    let a = b.args in
    let f = sound_fits a.x a.y a.z b.requires.2 in
    let e : Sized a.s.x a.s.y a.s.z = search rules in
    becomes_put a.s _ e a.i a.x a.y a.z b.requires.0 b.requires.1 f.fits_x f.fits_y
    c.put-a.ensures c.put-b.ensures (rw (to_z-of_z b.ranges.z, to_z-of_z f.fits_z) at c.put-c.ensures) refl
