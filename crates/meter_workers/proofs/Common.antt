-- The names that several proofs of this crate cite, passed on from one place. Declares nothing.
pub use Rattle.std.proofs.Common.{subst, ◌<◌, ◌++◌, ◌∷◌, Some, List, ◌+◌, length-append, length, ap, ℕ, [], ◌≤◌, ◌≡◌}
pub use Rattle.std.proofs.Common.{sym, arith, ◌∙◌, append_assoc, append-nil, ◌^◌, refl, rules, vec_len, ◌*◌, map}
pub use Rattle.std.proofs.lemmas.List.Elements.{All-weaker, All-append, All-pop, All-same, All-cons, All-nil}
pub use Rattle.std.proofs.lemmas.List.Sorted.{IsPermutation-append_comm, IsPermutation-refl, IsPermutation-append_left}
pub use Rattle.std.proofs.lemmas.List.Sorted.{IsPermutation-trans}
pub use Rattle.std.proofs.lemmas.Result.{err_from_is_err_and, IfOk-weaker}
pub use Rattle.std.specs.Prelude.{IsPermutation, All, slice_range, IfOk}
pub use Rattle.batch_queue.proofs.Passing.{first-more, more-keeps, more-none, other-more}
pub use Rattle.batch_queue.proofs.Records.{batch-answers}
pub use Rattle.batch_queue.specs.Batches.{IsBefore, IsReadyFor, answers_in, answers_of_batch}
pub use Rattle.batch_queue.specs.Passes.{IsMore, put_of, IsPassOf, reader_of, took_of}
pub use Rattle.batch_queue.specs.declared.batch.Batch.{Batch}
pub use Rattle.batch_queue.specs.declared.queue.QueuePass.{QueuePass}
pub use Rattle.cache_face.proofs.Apart.{same}
pub use Rattle.cache_face.specs.Meaning.{IsFresh}
pub use Rattle.cache_face.specs.declared.caches.FlowCache.{Ghosts}
pub use Rattle.capture_input.proofs.Filling.{seen}
pub use Rattle.capture_input.proofs.Ranges.{answers-count}
pub use Rattle.capture_input.specs.Giving.{base_in, part_in, HasGiven, left_in}
pub use Rattle.capture_input.specs.Parts.{Answer, answers_by, answers_from}
pub use Rattle.capture_input.specs.Refusals.{IsRefused}
pub use Rattle.capture_tally.specs.Tallies.{IsTallyOf}
pub use Rattle.flow_parts.specs.Sharing.{SharesOut}
pub use Rattle.flow_parts.specs.declared.fragment.Fragment.{Fragment}
pub use Rattle.front_cache.specs.Fronts.{open_in}
pub use Rattle.meter_io.specs.Sides.{side}
pub use Rattle.meter_workers.specs.Batched.{HasHandedOn, StandsBefore}
pub use Rattle.meter_workers.specs.Shares.{IsShareOf, put_by, HasMetered}
pub use Rattle.meter_workers.specs.Whole.{HaveMetered}
pub use Rattle.meter_workers.specs.declared.share.Share.{Share}
pub use Rattle.meter_workers.specs.declared.together.CaptureMetered.{CaptureMetered}
pub use Rattle.work_pieces.specs.declared.worker.WorkState.TheVariants.{Finished}
pub use Rattle.work_pieces.specs.declared.worker.Worker.{Worker}
pub use Rattle.packet_accept.specs.Packets.{packets_in}
pub use Rattle.pcap_reader.specs.Index.{Offsets, IsIndexOf}
pub use Rattle.pcap_reader.specs.Views.{part_of, file_of}
pub use Rattle.work_pieces.proofs.Cutting.{IsBehind}
pub use Rattle.work_pieces.proofs.Doing.{snoc, all-mapped, done-more, done-none, nothing-done}
pub use Rattle.work_pieces.specs.Cutting.{pieces_of}
pub use Rattle.work_pieces.specs.Doing.{HaveDone}
pub use Rattle.work_pieces.specs.Passes.{size_of, drawn_of}
pub use Rattle.work_pieces.specs.declared.pieces.DrawPass.{DrawPass}
