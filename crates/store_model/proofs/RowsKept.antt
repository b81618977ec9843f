-- Rows that change, and the commands of a channel while the log grows.
use Rattle.std.proofs.Common.{None, ◌≡◌, ◌≢◌, ℕ, eqb, List, [], ◌∷◌, ◌++◌, refl, sym, ◌∙◌, ap, subst, arith}
use Rattle.std.proofs.Common.{append_assoc, inl, inr}
use Rattle.std.proofs.lemmas.Bool.{cases_eq, eq-eqb, ne_eqb}
use Rattle.std.proofs.lemmas.List.{append-nil}
use Rattle.std.proofs.lemmas.List.Elements.{filter-append}
use Rattle.volume_model.specs.Logs.{Numbered}
use Rattle.volume_model.specs.declared.command.Command.{Command}
use Rattle.volume_model.specs.declared.reply.Reply.{Reply}
use Rattle.volume_model.specs.declared.reply.Entry.{Entry}
use Rattle.store_model.specs.Rows.{Row, Rows, Stage, with_row, entries_of, entry_of}
use Rattle.store_model.specs.StoreState.{StoreState}
use Rattle.store_model.specs.RunInvariant.{OnItsWay}
use Rattle.store_model.proofs.Numbering.{numbered-push}

module _ (rows : Rows) (channel : ℕ) (row : Row) where
  pub row_here : (c : ℕ) → c ≡ channel → with_row rows channel row c ≡ row
  row_here c e = rw (eq-eqb c channel e) refl

  pub row_other : (c : ℕ) → c ≢ channel → with_row rows channel row c ≡ rows c
  row_other c ne = rw (ne_eqb c channel ne) refl

  -- what the row has as the one before it had
  pub row_same : {A : Type 0} → (of : Row → A) → of row ≡ of (rows channel) → (c : ℕ)
      → of (with_row rows channel row c) ≡ of (rows c)
  row_same of same c = elim (cases_eq c channel) [
    | inl e ↦ ap of (row_here c e) ∙ same ∙ ap (λ k. of (rows k)) (sym e)
    | inr ne ↦ ap of (row_other c ne)
  ]

pub entries_more : (channel : ℕ) (log : List Entry) (e : Entry) → e.channel ≡ channel
    → entries_of channel (log ++ e ∷ []) ≡ entries_of channel log ++ e ∷ []
entries_more channel log e is =
    filter-append (λ (x : Entry). eqb x.channel channel) log (e ∷ []) ∙ rw (eq-eqb e.channel channel is) refl

pub entries_same : (channel : ℕ) (log : List Entry) (e : Entry) → e.channel ≢ channel
    → entries_of channel (log ++ e ∷ []) ≡ entries_of channel log
entries_same channel log e ne = filter-append (λ (x : Entry). eqb x.channel channel) log (e ∷ [])
    ∙ rw (ne_eqb e.channel channel ne) (append-nil (entries_of channel log))

module _ (script : ℕ → List Command) (p : StoreState) (way : (c : ℕ) → OnItsWay p script c) (q : StoreState) where
  -- no command leaves its row, and nothing is logged
  pub way_kept : q.log ≡ p.log → ((c : ℕ) → (q.rows c).left ≡ (p.rows c).left) → (c : ℕ) → OnItsWay q script c
  way_kept log left c =
      let w = way c in
      record {
        made = w.made;
        numbered = subst (λ l. Numbered 0 (entries_of c l) w.made) (sym log) w.numbered;
        all = ap (λ l. w.made ++ l) (left c) ∙ w.all;
      }

  -- a command is logged
  module _ (channel : ℕ) (command : Command) (rest : List Command) (after : Stage) (reply : Reply)
      (was : (p.rows channel).left ≡ command ∷ rest)
      (rows : q.rows ≡ with_row p.rows channel (record { left = rest; stage = after; claim = None }))
      (log : q.log ≡ p.log ++ entry_of p.log channel command reply ∷ []) where
    abbrev new : Entry
    new = entry_of p.log channel command reply

    here : OnItsWay q script channel
    here =
        let w = way channel in
        let left : (q.rows channel).left ≡ rest = ap (λ (r : Rows). (r channel).left) rows ∙ ap (λ (r : Row). r.left)
        (row_here p.rows channel (record { left = rest; stage = after; claim = None }) channel refl) in
        record {
          made = w.made ++ command ∷ [];
          numbered = subst (λ es. Numbered 0 es (w.made ++ command ∷ []))
              (sym (ap (entries_of channel) log ∙ entries_more channel p.log new refl))
              (numbered-push 0 (entries_of channel p.log) w.made new command w.numbered (omega arith) refl);
          all = append_assoc w.made (command ∷ []) (q.rows channel).left ∙ ap (λ l. w.made ++ command ∷ l) left
              ∙ ap (λ l. w.made ++ l) (sym was) ∙ w.all;
        }

    pub way_logged : (c : ℕ) → OnItsWay q script c
    way_logged c = elim (cases_eq c channel) [
      | inl e ↦ subst (λ k. OnItsWay q script k) (sym e) here
      | inr ne ↦
          let w = way c in
          let left : (q.rows c).left ≡ (p.rows c).left = ap (λ (r : Rows). (r c).left) rows ∙ ap (λ (r : Row). r.left)
          (row_other p.rows channel (record { left = rest; stage = after; claim = None }) c ne) in
          record {
            made = w.made;
            numbered = subst (λ es. Numbered 0 es w.made)
                (sym (ap (entries_of c) log ∙ entries_same c p.log new (λ e. ne (sym e)))) w.numbered;
            all = ap (λ l. w.made ++ l) left ∙ w.all;
          }
    ]
