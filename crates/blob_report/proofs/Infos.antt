-- The pieces of what is known of a volume, one after the other, are its text.
use Rattle.std.proofs.Common.{◌≡◌, ℕ, List, Option, [], ◌++◌, ap, ◌∙◌, decimal, append_assoc}
use Rattle.std.specs.Prelude.{codes}
use Rattle.std.proofs.lemmas.List.{append-nil}
use Rattle.volume_model.specs.declared.reply.Info.{Info}
use Rattle.blob_report.specs.Pieces.{shown_bytes, head_text}
use Rattle.blob_report.specs.Text.{filling_text, writing_text, info_text}

regroup : (a b c d e f g h i j k l : List ℕ)
    → a ++ (b ++ (c ++ (d ++ (e ++ (f ++ (g ++ (h ++ (i ++ (j ++ (k ++ (l ++ []))))))))))) ≡ a ++ b ++ c ++ d ++ e ++
    f ++ g ++ h ++ i ++ j ++ k ++ l
regroup a b c d e f g h i j k l = simp (append_assoc, append-nil)

abbrev pub pieces_of : Info → List ℕ → Option ℕ → List ℕ → List ℕ → List ℕ
pieces_of info name parent filling writing =
    codes "volume @" ++ (decimal info.head ++
    (codes " " ++ (shown_bytes name ++
    (codes " slots " ++ (decimal info.slots ++ (codes " parent " ++ (head_text parent
    ++ (filling ++ (writing ++ (codes " xattrs " ++ (decimal info.xattrs ++ [])))))))))))

pub pieces_are : (info : Info) (name : List ℕ) (parent : Option ℕ) (filling writing : List ℕ) → name ≡ info.name
    → parent ≡ info.parent → filling ≡ filling_text info.thin → writing ≡ writing_text info.read_only
    → pieces_of info name parent filling writing ≡ info_text info
pieces_are info name parent filling writing n p f w =
    ap (λ (x : List ℕ). pieces_of info x parent filling writing) n
    ∙ ap (λ (x : Option ℕ). pieces_of info info.name x filling writing) p
    ∙ ap (λ (x : List ℕ). pieces_of info info.name info.parent x writing) f
    ∙ ap (λ (x : List ℕ). pieces_of info info.name info.parent (filling_text info.thin) x) w
    ∙ regroup (codes "volume @") (decimal info.head) (codes " ") (shown_bytes info.name) (codes " slots ")
    (decimal info.slots) (codes " parent ") (head_text info.parent) (filling_text info.thin)
    (writing_text info.read_only) (codes " xattrs ") (decimal info.xattrs)
