-- What metering a whole capture means.
use Rattle.std.specs.Prelude.{◌≡◌, ℕ, ◌*◌, ◌<◌, ◌≤◌, ◌^◌, List, Some, None}
use Rattle.meter_io.specs.Sides.{Side, IsRead}
use Rattle.pcap_reader.specs.File.{CaptureFile, capture_file, IsKnownLink}
use Rattle.pcap_reader.specs.Records.{damage_of, tail_of}
use Rattle.packet_accept.specs.Packets.{answers_of, packets_in, packets_of}
use Rattle.flow_parts.specs.declared.fragment.Fragment.{Fragment}
use Rattle.flow_parts.specs.declared.timeouts.Timeouts.{Timeouts}
use Rattle.flow_parts.specs.Sharing.{SharesOut}
use Rattle.capture_tally.specs.declared.tally.Tally.{Tally}
use Rattle.capture_tally.specs.Tallies.{IsTallyOf}
use Rattle.cache_face.specs.declared.caches.FlowCache.{Ghosts}
use Rattle.capture_input.specs.Parts.{Answer}
use Rattle.meter_workers.specs.Shares.{AreSmall}
use Rattle.meter_workers.specs.declared.together.CaptureMetered.{CaptureMetered}

-- The seats together metered these answers: what was put into the cache shares out their packets, the list is just what
-- the pass was handed, and the tally is theirs. `the` is what the type of the cache means.
pub record HaveMetered {X P : Type 0} (the : Ghosts X P) (cache : X) (answers : List Answer)
    (all : CaptureMetered X P) : Type 0 where
  pub own : the.is_of cache all.pass
  pub some : 0 < (the.shown all.pass).note.seats
  pub shared : SharesOut (the.means cache).limits (packets_in answers) (the.shown all.pass).note.taken
  pub parts : all.parts ≡ (the.shown all.pass).note.handed
  pub tallied : IsTallyOf all.tally answers
  pub small : AreSmall (packets_in answers)
  pub few : all.tally.captured ≤ (the.shown all.pass).note.seats * 2 ^ 32

-- The source gave an undamaged capture and has nothing left. What was put into the cache shares out its packets by
-- these time-outs, the tally is that of all its records, and so many bytes are left behind the last of them.
pub record IsMeteredWhole (source : Side) (limit : ℕ) (limits : Timeouts) (taken : List Fragment) (tally : Tally)
    (tail : ℕ) : Type 0 where
  pub bytes : List ℕ
  pub read : IsRead source limit bytes
  pub file : CaptureFile
  pub is_file : capture_file bytes ≡ Some file
  pub known : IsKnownLink file.link
  pub undamaged : damage_of file ≡ None
  pub shared : SharesOut limits (packets_of file) taken
  pub tallied : IsTallyOf tally (answers_of file)
  pub tail_is : tail ≡ tail_of file
