-- Runs of writes, one after the other.
use Rattle.std.proofs.Common.{ℕ, refl, ◌∙◌, arith, IsTrue}
use Rattle.page_disk.specs.Disk.{Image, Telling}
use Rattle.page_disk.specs.declared.disk.PageDisk.{Ghosts}
use Rattle.page_disk.proofs.Moments.{started, joined}
use Rattle.page_runs.specs.Writing.{IsAnyBut, WritesOnly}

-- nothing is written yet
pub none_written : {D : Type 0} (d : Ghosts D) → (IsTrue d.tells → Telling d.now d.images d.since d.clock)
    → (some : ℕ → Type 0) (disk : D) → WritesOnly d some disk disk
none_written d law some disk = record {
  now = λ told p out. refl;
  images = λ told. here;
  any_moment =
      λ told. started d disk (IsAnyBut some (d.images disk))
      (λ image left. here image ((law told).since_now disk image left));
  later = omega arith;
  pages = refl;
  write_faults = omega arith;
  read_faults = refl;
  reads = refl;
}
  where
    here : (image : Image) → d.images disk image → IsAnyBut some (d.images disk) image
    here image held = (image, held, λ p out. refl)

-- pages of a run were written, and then others, which are some of the same
module _ {D : Type 0} (d : Ghosts D) (some : ℕ → Type 0) (first mid last : D) (was : WritesOnly d some first mid)
    (then_some : ℕ → Type 0) (among : (page : ℕ) → then_some page → some page)
    (then : WritesOnly d then_some mid last) where
  later_images : IsTrue d.tells → (image : Image) → IsAnyBut then_some (d.images mid) image
      → IsAnyBut some (d.images first) image
  later_images told image any =
      let before = was.images told any.0 any.1 in
      (before.0, before.1, λ p out. any.2 p (λ x. out (among p x)) ∙ before.2 p out)

  pub written_after : WritesOnly d some first last
  written_after = record {
    now = λ told p out. then.now told p (λ x. out (among p x)) ∙ was.now told p out;
    images = λ told image left. later_images told image (then.images told image left);
    any_moment =
        λ told. joined d first mid last _ _ _ (was.any_moment told) (then.any_moment told) (λ image x. x)
        (later_images told);
    later = let a = was.later in let b = then.later in omega (arith, a, b);
    pages = then.pages ∙ was.pages;
    write_faults = let a = was.write_faults in let b = then.write_faults in omega (arith, a, b);
    read_faults = then.read_faults ∙ was.read_faults;
    reads = then.reads ∙ was.reads;
  }
