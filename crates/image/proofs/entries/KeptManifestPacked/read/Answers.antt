-- `image::entries::KeptManifestPacked::read` meets its contract: the names stand behind the numbers. Assumes nothing.
use Rattle.std.proofs.Common.{◌≡◌, ℕ, Some, length, get_or, replicate, sym, ap, ap₂, ◌∙◌, arith}
use Rattle.std.specs.Option.{option_map}
use lib.Seq.{length-take-le}
use Rattle.rules.specs.Limits.{limits}
use Rattle.fields.specs.Bytes.{words_of}
use Rattle.image.proofs.Laying.{tail}
use Rattle.image.specs.Rows.{row_at, found_as}
use Rattle.image.specs.Format.{manifest_row, manifest_size, manifest_from}
use Rattle.image.specs.Code.{line, found_manifest}
use Rattle.image.proofs.RowLaws.{row_sized, pad_front}
use Rattle.image.proofs.Things.{map-some}
use Rattle.image.proofs.entries.KeptManifestPacked.read.Goals as goal

pub returns-clause-is : goal.returns-clause-is
returns-clause-is c =
    let s = c.args.s.now in
    let x = map-some (found_as line) (row_at manifest_row s) (sym c.in_ok-row.ensures.is) in
    let r = x.0 in
    let k = c.in_ok-row.row.value.names in
    let count : k ≡ length r.value.names = sym (ap (λ y. y.value.names) x.2) in
    let many = length-take-le {A = ℕ} k (replicate limits.names 0) (omega (arith, c.in_ok-row.ensures.sized)) in
    let read : c.read_words.new.list ≡ r.value.names =
    c.read_words.ensures ∙ ap₂ words_of (many ∙ count) (tail manifest_size s) ∙ (row_sized manifest_row s r x.1).names in
    let names = pad_front limits.names k 0 r.value.names c.read_words.new.list read (sym count) in
    let numbers : c.in_ok-row.row.value.numbers ≡ r.value.numbers = sym (ap (λ y. y.value.numbers) x.2) in
    let size : c.in_ok-row.row.size ≡ r.size = sym (ap (λ y. y.size) x.2) in
    (λ i. Some (record {
      value = record { number = get_or (numbers i) 0 0; writer = get_or (numbers i) 1 0; compactor = get_or (numbers i) 2 0; count = count i; names = names i };
      size = size i;
    }))
    ∙ ap (λ o. found_manifest (option_map (found_as manifest_from) o)) (sym x.1)
