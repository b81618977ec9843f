-- The text of a log, entry by entry.
use Rattle.std.proofs.Common.{◌≡◌, ℕ, ◌+◌, ◌<◌, List, [], ◌∷◌, ◌++◌, length, get_or, take, drop, zero, suc, sym, ap}
use Rattle.std.proofs.Common.{◌∙◌, arith, append_assoc}
use Rattle.std.proofs.lemmas.List.{take_more, take-append-drop}
use Rattle.std.proofs.lemmas.Grind.{common_steps, flat_map-append}
use Rattle.volume_model.specs.declared.reply.Entry.{Entry}
use Rattle.blob_report.specs.Text.{entry_text, log_text}
use Rattle.streams.specs.Printing.{IsPartOf}

at_entry : (es : List Entry) (i : ℕ) (e : Entry) → i < length es → e ≡ get_or es i e
    → es ≡ take i es ++ e ∷ drop (i + 1) es
at_entry [] i e lt is = absurd (omega arith)
at_entry (x ∷ xs) zero e lt is = grind (arith, common_steps, is)
at_entry (x ∷ xs) (suc i) e lt is = ap (λ es. x ∷ es) (at_entry xs i e (omega arith) is) ∙ grind (arith, common_steps)

-- a log's text is that of the entries before one, of the entry, and of the entries behind it
pub split_log : (es : List Entry) (i : ℕ) (e : Entry) → i < length es → e ≡ get_or es i e
    → log_text es ≡ log_text (take i es) ++ (entry_text e ++ log_text (drop (i + 1) es))
split_log es i e lt is =
    ap log_text (at_entry es i e lt is) ∙ flat_map-append entry_text (take i es) (e ∷ drop (i + 1) es)

-- the text of one entry more
pub log_more : (es : List Entry) (i : ℕ) (e : Entry) → i < length es → e ≡ get_or es i e
    → log_text (take (i + 1) es) ≡ log_text (take i es) ++ entry_text e
log_more es i e lt is =
    ap log_text (take_more es i e lt) ∙ flat_map-append entry_text (take i es) (get_or es i e ∷ [])
    ∙ ap (λ x. log_text (take i es) ++ log_text (x ∷ [])) (sym is) ∙ grind (arith, common_steps)

-- where a part of an entry's text is printed behind the entries before it, a part of the log's text is printed
pub part_of_log : (before between now : List ℕ) (es : List Entry) (i : ℕ) (e : Entry) → i < length es
    → e ≡ get_or es i e → between ≡ before ++ log_text (take i es)
    → IsPartOf between now (entry_text e) → IsPartOf before now (log_text es)
part_of_log before between now es i e lt is done part = record {
  part = log_text (take i es) ++ part.part;
  rest = part.rest ++ log_text (drop (i + 1) es);
  whole_is = split_log es i e lt is ∙ grind (arith, common_steps, part.whole_is);
  after_is = part.after_is ∙ ap (λ xs. xs ++ part.part) done ∙ append_assoc before (log_text (take i es)) part.part;
}

-- where the first entries are printed, a part of the log's text is printed
pub part_before : (before now : List ℕ) (es : List Entry) (i : ℕ) → now ≡ before ++ log_text (take i es)
    → IsPartOf before now (log_text es)
part_before before now es i e = record {
  part = log_text (take i es);
  rest = log_text (drop i es);
  whole_is = ap log_text (sym (take-append-drop i es)) ∙ flat_map-append entry_text (take i es) (drop i es);
  after_is = e;
}

-- where an entry's text is printed behind the entries before it, those and the entry are printed
pub log_with_more : (before between now : List ℕ) (es : List Entry) (i : ℕ) (e : Entry) → i < length es
    → e ≡ get_or es i e → between ≡ before ++ log_text (take i es) → now ≡ between ++ entry_text e
    → now ≡ before ++ log_text (take (i + 1) es)
log_with_more before between now es i e lt is done more =
    more ∙ ap (λ xs. xs ++ entry_text e) done ∙ append_assoc before (log_text (take i es)) (entry_text e)
    ∙ ap (λ xs. before ++ xs) (sym (log_more es i e lt is))
