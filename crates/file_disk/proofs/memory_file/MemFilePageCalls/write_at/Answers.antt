use Rattle.std.proofs.Common.{◌≡◌, ℕ, List, ◌++◌, length, take, drop, sym, ◌∙◌, ap, subst}
use Rattle.std.proofs.Math.Seq.{take-append_seam}
use Rattle.file_disk.specs.FileCalls.{FileCall, HasBytes, blank, file_after}
use Rattle.file_disk.specs.Notes.{calls_noted}
use Rattle.file_disk.proofs.memory_file.MemFilePageCalls.write_at.Goals as goal

-- what is put over the whole of a vector is all of it
whole : (xs items : List ℕ) (len : ℕ) → length xs ≡ len → take len (xs ++ drop (length xs) items) ≡ xs
whole xs items len long =
    ap (λ n. take n (xs ++ drop (length xs) items)) (sym long) ∙ take-append_seam xs (drop (length xs) items)

pub invariant_of-self-2 : goal.invariant_of-self-2
invariant_of-self-2 c =
    let before = c.args.self.now in
    let had : HasBytes c.deref_mut.result.now (file_after blank (calls_noted before.notes)) =
    subst (λ (xs : List ℕ). HasBytes xs (file_after blank (calls_noted before.notes)))
    (sym c.deref_mut.ensures.value) before.has in
    record {
      has = subst (λ (xs : List ℕ). HasBytes xs (file_after blank (calls_noted c.note_write-2.new.self)))
          (sym (whole c.put_run.new.bytes before.bytes.items before.bytes.len
          (c.put_run.auto.bytes ∙ c.deref_mut.ensures.len)))
          (subst (λ (calls : List FileCall). HasBytes c.put_run.new.bytes (file_after blank calls))
          (sym c.note_write-2.ensures)
          (c.put_run.ensures (file_after blank (calls_noted before.notes)) had));
    }
