-- A mask as its pages are read from a device.
use Rattle.std.proofs.Common.{◌≡◌, ℕ, ◌+◌, ◌<◌, ◌≤◌, Bool, true, false, List, [], ◌++◌, length, Some}
use Rattle.std.proofs.Common.{None, refl, sym, ap, subst, ◌∙◌, inl, inr, arith}
use Rattle.std.specs.Prelude.{IsTrue, ◌==◌}
use Rattle.std.proofs.lemmas.Bool.{cases_eq, eq-eqb, ne_eqb}
use Rattle.bit_array.specs.Fault.{head_fault, next_fault}
use Rattle.bit_array.specs.Reading.{HasRead, MaskReading}
use Rattle.bit_array.specs.declared.reader.MaskFault.{MaskFault}
use Rattle.clean_stop.specs.Masks.{SaysMask, text_from}
use Rattle.md_chain.proofs.DeviceWalk.{no_read, read_on}
use Rattle.md_chain.specs.Reading.{OnlyRead}
use Rattle.page_disk.specs.declared.disk.PageDisk.{Ghosts}
use Rattle.unclean_load.proofs.MaskTexts.{text_more}

-- what is known once so many pages of a mask were read
pub record MaskRead {D : Type 0} (d : Ghosts D) (first disk : D) (start kind len index : ℕ) (reader : MaskReading)
    : Type 0 where
  pub same : OnlyRead d first disk
  pub quiet : d.read_faults disk ≡ d.read_faults first
  pub reads : d.reads disk ≤ d.reads first + index
  pub fed : reader.fed ≡ index
  pub count : length reader.bits ≡ len
  pub text : List ℕ
  pub has : HasRead reader kind len text
  pub told : IsTrue d.tells → text ≡ text_from start index (d.now first)
  pub head : IsTrue d.tells → 0 < index → head_fault kind len (d.now first start) ≡ None

module _ {D : Type 0} (d : Ghosts D) (first : D) (start kind len : ℕ) where
  pub none_read : (reader : MaskReading) → HasRead reader kind len [] → reader.fed ≡ 0 → length reader.bits ≡ len
      → MaskRead d first first start kind len 0 reader
  none_read reader has fed count = record {
    same = no_read d first;
    quiet = refl;
    reads = omega arith;
    fed = fed;
    count = count;
    text = [];
    has = has;
    told = λ _. refl;
    head = λ _ lt. absurd (omega (arith, lt));
  }

  module _ (disk new : D) (index : ℕ) (reader : MaskReading) (w : MaskRead d first disk start kind len index reader)
      (page : List ℕ) (content : IsTrue d.tells → page ≡ d.now disk (start + index)) where
    -- the page is that of the first image
    page_first : IsTrue d.tells → page ≡ d.now first (start + index)
    page_first told = content told ∙ ap (λ (image : ℕ → List ℕ). image (start + index)) (w.same.now told)

    -- the test of the next page is that of the first one, which alone has a head
    first_fault : index ≡ 0 → next_fault reader page ≡ head_fault kind len page
    first_fault e =
        let t : (reader.fed == 0) ≡ true = eq-eqb reader.fed 0 (w.fed ∙ e) in
        rw t (ap (λ (k : ℕ). head_fault k (length reader.bits) page) w.has.kind_is
        ∙ ap (λ (n : ℕ). head_fault kind n page) w.count)

    later_fault : (index ≡ 0 → ⊥) → next_fault reader page ≡ None
    later_fault ne =
        let t : (reader.fed == 0) ≡ false = ne_eqb reader.fed 0 (λ e. ne (sym w.fed ∙ e)) in rw t refl

    at_start : index ≡ 0 → IsTrue d.tells → page ≡ d.now first start
    at_start e told = page_first told ∙ ap (d.now first) (let s : start + index ≡ start = omega (arith, e) in s)

    -- one page more was read
    pub one_read : OnlyRead d disk new → d.read_faults new ≡ d.read_faults disk → d.reads new ≤ d.reads disk + 1
        → (next : MaskReading) → next_fault reader page ≡ None
        → ((k n : ℕ) (text : List ℕ) → HasRead reader k n text → HasRead next k n (text ++ page))
        → next.fed ≡ reader.fed + 1 → length next.bits ≡ length reader.bits
        → MaskRead d first new start kind len (index + 1) next
    one_read on still more next none reads fed count = record {
      same = read_on d first disk new w.same on;
      quiet = still ∙ w.quiet;
      reads = let a = w.reads in omega (arith, a, more);
      fed = fed ∙ ap (λ (n : ℕ). n + 1) w.fed;
      count = count ∙ w.count;
      text = w.text ++ page;
      has = reads kind len w.text w.has;
      told =
          λ told. ap (λ (t : List ℕ). t ++ page) (w.told told)
          ∙ ap (λ (p : List ℕ). text_from start index (d.now first) ++ p) (page_first told)
          ∙ sym (text_more start index (d.now first));
      head = λ told _. elim (cases_eq index 0) [
        | inl e ↦
            subst (λ (p : List ℕ). head_fault kind len p ≡ None) (at_start e told) (sym (first_fault e) ∙ none)
        | inr ne ↦ w.head told (omega (arith, ne))
      ];
    }

    -- a page that is refused is the first, and no set is said from there on
    pub none_said : IsTrue d.tells → (why : MaskFault) → next_fault reader page ≡ Some why → (bits : List Bool)
        → length bits ≡ len → SaysMask start kind bits (d.now first) → ⊥
    none_said told why is bits long says = elim (cases_eq index 0) [
      | inl e ↦
          let bad : None ≡ Some why =
          sym (subst (λ (n : ℕ). head_fault kind n (d.now first start) ≡ None) long says.head)
          ∙ sym (ap (head_fault kind len) (at_start e told)) ∙ sym (first_fault e) ∙ is in
          absurd (cc bad)
      | inr ne ↦ let bad : None ≡ Some why = sym (later_fault ne) ∙ is in absurd (cc bad)
    ]
