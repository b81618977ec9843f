use Rattle.std.proofs.Common.{◌≡◌, inl, inr, refl, sym, ◌∙◌, subst}
use Rattle.running_store.specs.StoreView.{rows_of}
use Rattle.running_store.specs.Stages.{is_stage}
use Rattle.running_store.specs.declared.rows.RowStage.TheVariants as waits
use Rattle.data_path.specs.declared.reading.Stage.TheVariants as stage
use Rattle.channels.proofs.Held.{frozen_there, out_there, posts_as, settled}
use Rattle.channels.proofs.OwnTurns.{ends, flushes, goes_on, logs_write, posts, reads, sends, settles}
use Rattle.channels.proofs.Stages.{IsLogging, itself}
use Rattle.channels.proofs.own_turn.own_turn.Goals as goal

pub returns-in-Read-clause-turns : goal.returns-in-Read-clause-turns
returns-in-Read-clause-turns g c made =
    let d = g.D.PageDisk in
    let p = c.args.plant.now.at in
    let q = c.read_turn.new.plant.at in
    let logged : c.read_turn.result ≡ stage.Logged = elim made [
      | inl again ↦ elim c.read_turn.ensures.stage [
        | inl waits ↦ let bad = sym waits ∙ again in absurd (cc bad)
        | inr logged ↦ logged
      ]
      | inr logged ↦ logged
    ] in
    reads d p q c.args.channel (c.read_turn.ensures.row logged).others
    (itself (rows_of p.rows c.args.channel) c.args.channel waits.Read (sym c.stage.ensures ∙ c.in-Read.is) tt)
    (c.read_turn.ensures.logged logged)

pub returns-in-Read-clause-waits : goal.returns-in-Read-clause-waits
returns-in-Read-clause-waits g c waiting =
    frozen_there g.D.PageDisk c.args.plant.now c.keeps.ensures c.args.channel waits.Read
    (sym c.stage.ensures ∙ c.in-Read.is) tt (c.read_turn.ensures.frozen waiting)

pub returns-in-Flush-clause-turns : goal.returns-in-Flush-clause-turns
returns-in-Flush-clause-turns g c made =
    let p = c.args.plant.now.at in
    flushes g.D.PageDisk p c.flush.new.self.at c.args.channel c.flush.ensures.row.others
    (itself (rows_of p.rows c.args.channel) c.args.channel waits.Flush (sym c.stage.ensures ∙ c.in-Flush.is) tt)
    c.flush.ensures.case

pub returns-in-Meta-clause-posts : goal.returns-in-Meta-clause-posts
returns-in-Meta-clause-posts g c msg is =
    posts g.D.PageDisk c.args.plant.now.at c.post.new.self.at c.args.channel c.post.ensures.row.others msg
    c.post.ensures.case (posts_as c.post.result msg is c.post.ensures.message)

pub returns-in-Decided-clause-turns : goal.returns-in-Decided-clause-turns
returns-in-Decided-clause-turns g c made =
    let p = c.args.plant.now.at in
    let told = settled (rows_of p.rows c.args.channel) c.args.channel c.settle.result
    (sym c.stage.ensures ∙ c.in-Decided.is) c.settle.ensures.told in
    settles g.D.PageDisk p c.settle.new.self.at c.args.channel (c.settle.ensures.row told).others
    (c.settle.ensures.settled told)

pub returns-in-Over-clause-turns : goal.returns-in-Over-clause-turns
returns-in-Over-clause-turns g c made =
    ends g.D.PageDisk c.args.plant.now.at c.end.new.self.at c.args.channel c.end.ensures.row.others c.end.ensures.case

pub returns-in-Posted-clause-waits : goal.returns-in-Posted-clause-waits
returns-in-Posted-clause-waits g c waiting =
    let p = c.args.plant.now.at in
    let out = out_there g.D.PageDisk p c.args.channel in
    elim c.in-Posted.is [
      | inl x ↦ out (waits.Posted x.0) (sym c.stage.ensures ∙ x.1) tt
      | inr other ↦ elim other [
        | inl is ↦ out waits.InJob (sym c.stage.ensures ∙ is) tt
        | inr is ↦ out waits.Ended (sym c.stage.ensures ∙ is) tt
      ]
    ]

pub returns-in-Write-clause-turns : goal.returns-in-Write-clause-turns
returns-in-Write-clause-turns g c made =
    let d = g.D.PageDisk in
    let p = c.args.plant.now.at in
    let q = c.write_turn.new.plant.at in
    let row = rows_of p.rows c.args.channel in
    let w = is_stage row c.args.channel in
    let others = c.write_turn.ensures.others in
    let may : IsLogging w = elim c.in-Write.is [
      | inl is ↦ subst IsLogging (sym is ∙ c.stage.ensures) tt
      | inr other ↦ elim other [
        | inl is ↦ subst IsLogging (sym is ∙ c.stage.ensures) tt
        | inr third ↦ elim third [
          | inl x ↦ subst IsLogging (sym x.1 ∙ c.stage.ensures) tt
          | inr is ↦ subst IsLogging (sym is ∙ c.stage.ensures) tt
        ]
      ]
    ] in
    let logs = itself row c.args.channel w refl may in
    elim made [
      | inl again ↦ goes_on d p q c.args.channel others logs w (c.write_turn.ensures.again again)
      | inr logged ↦ logs_write d p q c.args.channel others logs w (c.write_turn.ensures.logged logged)
    ]

pub returns-in-Write-clause-posts : goal.returns-in-Write-clause-posts
returns-in-Write-clause-posts g c msg is =
    sends g.D.PageDisk c.args.plant.now.at c.write_turn.new.plant.at c.args.channel c.write_turn.ensures.others _ msg
    (c.write_turn.ensures.sent msg is)

pub returns-in-Write-clause-waits : goal.returns-in-Write-clause-waits
returns-in-Write-clause-waits g c waiting =
    let held = frozen_there g.D.PageDisk c.args.plant.now c.keeps.ensures c.args.channel in
    let frozen = c.write_turn.ensures.frozen waiting in
    elim (c.write_turn.ensures.stage waiting) [
      | inl is ↦ held waits.Write is tt frozen
      | inr is ↦ held waits.Claim is tt frozen
    ]
