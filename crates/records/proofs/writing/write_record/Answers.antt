-- `records::writing::write_record` meets its contract: the head, and behind it the fields, where there is room.
-- Assumes nothing.
use native.Mathlib.Omega.{arith}
use Rattle.records.specs.Format.{bytes_of}
use Rattle.records.specs.Found.{fields_in}
use Rattle.records.proofs.Pieces.{record_full, record_put}
use Rattle.records.proofs.writing.write_record.Goals as goal

pub returns-then-out-end : goal.returns-then-out-end
returns-then-out-end c =
    let a = c.args in
    record_full a.tag (bytes_of (fields_in a.fields) a.list.now) a.out.now (omega arith)

pub returns : goal.returns
returns c =
    let a = c.args in
    let put = c.put_head in
    let size = c.size_of-size in
    record_put a.tag size.result (bytes_of (fields_in a.fields) a.list.now) a.out.now put.new.out c.put_fields.new.out
    size.ensures.0 (omega arith) put.ensures c.put_fields.ensures
