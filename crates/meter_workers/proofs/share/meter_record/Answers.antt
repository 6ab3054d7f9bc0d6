use Rattle.meter_workers.proofs.Common.{◌∷◌, List, [], sym, subst, ap, ◌∙◌, arith, file_of, Answer, Share, HasMetered}
use Rattle.pcap_reader.specs.Views.{record_read}
use Rattle.capture_input.proofs.Ranges.{answer-alone}
use Rattle.meter_workers.proofs.Shares.{put-few, shared-packet, shared-none, share-more, on-ok-all}
use Rattle.meter_workers.proofs.share.meter_record.Goals as goal

pub meter_packet-requires-clause-room : goal.meter_packet-requires-clause-room
meter_packet-requires-clause-room g c κs within =
    let few = put-few g.C.FlowCache c.args.cache.now _ c.args.share.now c.sharing_out_counts.ensures.counts
    c.requires.share.1 in
    omega (arith, few, c.requires.room)

pub returns-in-Ok-clause-share : goal.returns-in-Ok-clause-share
returns-in-Ok-clause-share g c =
    let part = c.args.part.now in
    let one = answer-alone part.base c.args.n (file_of part.capture) (record_read c.record-record.result)
    c.record-record.ensures.value ∙ ap (λ (a : Answer). a ∷ []) (sym c.accept-answer.ensures.answer) in
    let new : Share g.row.C.Denot g.row.C-Pass.Denot = record {
      pass = c.meter_packet.new.pass;
      front = c.meter_packet.new.front;
      parts = c.meter_packet.new.parts;
      tally = c.add.new.self;
    } in
    on-ok-all c.meter_packet.result c.meter_packet.ensures.seated c.meter_packet.ensures.reached
    c.meter_packet.ensures.handed
    (λ seated reached keeps.
    subst (λ (l : List Answer). HasMetered g.C.FlowCache c.args.cache.now l c.args.share.now new) (sym one) (record {
      besides = λ done share.
          share-more g.C.FlowCache c.args.cache.now done _ c.args.share.now new c.accept-answer.ensures.octets
          c.requires.room c.add.ensures keeps seated
          (shared-packet _ done _ c.in-Ok.packet reached.0 _ _ c.sharing_out_goes_on.ensures.opened
          c.reaching_shares_out.ensures.shared c.in-Ok.is reached.1 reached.2 share.shared) share;
    }))

pub returns-in-Err-clause-share : goal.returns-in-Err-clause-share
returns-in-Err-clause-share g c =
    let part = c.args.part.now in
    let one = answer-alone part.base c.args.n (file_of part.capture) (record_read c.record-record.result)
    c.record-record.ensures.value ∙ ap (λ (a : Answer). a ∷ []) (sym c.accept-answer.ensures.answer) in
    let old : Share g.row.C.Denot g.row.C-Pass.Denot = c.args.share.now in
    let new : Share g.row.C.Denot g.row.C-Pass.Denot =
    record { pass = old.pass; front = old.front; parts = old.parts; tally = c.add.new.self } in
    subst (λ (l : List Answer). HasMetered g.C.FlowCache c.args.cache.now l old new) (sym one) (record {
      besides = λ done share.
          share-more g.C.FlowCache c.args.cache.now done _ old new c.accept-answer.ensures.octets c.requires.room
          c.add.ensures (λ handed. handed)
          share.seated (shared-none _ done _ c.in-Err.field-0 _ c.in-Err.is share.shared) share;
    })
