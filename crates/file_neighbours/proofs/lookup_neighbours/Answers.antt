-- `lookup_neighbours` meets its contract: a refused file decides, then the lookup, which lends as many records as the bytes have room for.
use mathlib.Core.Path.{refl}
use Prim.Native.Nat.{◌/◌}
use lib.ListN.{length}
use borrow.Author.Tests.{ne_eqb}
use Rattle.model.specs.Point.{location}
use Rattle.model.specs.Refusals.{neighbours_refusal}
use Rattle.refusal.specs.Numbered.{number_of, numbered}
use Rattle.refusal.proofs.Coded.{never_0}
use Rattle.file_lookups.proofs.Finding.{finds_none}
use Rattle.file_neighbours.proofs.Lends.{Lends, lends}
use Rattle.file_neighbours.proofs.lookup_neighbours.Goals as goal

pub returns-in-Err : goal.returns-in-Err
returns-in-Err c =
    let a = c.args in
    let e = c.in-Err.e in
    rw c.number.ensures
    (record {
      finds = finds_none a.file.now (number_of e) c.in-Err.ensures.number (never_0 e) (neighbours_refusal a.x a.y (length a.records.now / 10)) (location a.x a.y) a.answer.now a.count.now a.radius.now;
      records_after = rw (ne_eqb (number_of e) 0 (never_0 e)) refl;
    })

pub put_records-requires : goal.put_records-requires
put_records-requires c =
    let a = c.args in
    let q = numbered c.lookup_lending-looked.result.answer in
    let looked : Lends a.file.now a.x a.y a.records.now q c.lookup_lending-looked.result.records =
    lends a.file.now _ c.in-Ok.ensures a.x a.y a.records.now _ refl q c.lookup_lending-looked.result.records c.lookup_lending-looked.ensures in
    looked.room

pub returns : goal.returns
returns c =
    let a = c.args in
    let q = numbered c.lookup_lending-looked.result.answer in
    let looked : Lends a.file.now a.x a.y a.records.now q c.lookup_lending-looked.result.records =
    lends a.file.now _ c.in-Ok.ensures a.x a.y a.records.now _ refl q c.lookup_lending-looked.result.records c.lookup_lending-looked.ensures in
    let f = looked.finds a.answer.now a.count.now a.radius.now _ _ _ _ c.tell_answer.ensures in
    record { finds = f; records_after = looked.bytes _ _ c.put_records.ensures f.number }
