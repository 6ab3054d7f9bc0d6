-- What a share of the work has done; `the` is what the type of the cache means.
use Rattle.std.specs.Prelude.{◌≡◌, ◌<◌, ◌≤◌, ◌^◌, List, [], ◌++◌, All, Option, Some, None, Result, IfOk}
use Rattle.no_memory.specs.declared.NoMemory.{NoMemory}
use Rattle.packet_accept.specs.declared.packet.Packet.{Packet}
use Rattle.packet_accept.specs.Packets.{packets_in}
use Rattle.flow_parts.specs.declared.fragment.Fragment.{Fragment}
use Rattle.flow_parts.specs.declared.timeouts.Timeouts.{Timeouts}
use Rattle.flow_parts.specs.Sharing.{SharesOut}
use Rattle.capture_tally.specs.Tallies.{IsTallyOf}
use Rattle.cache_face.specs.Meaning.{PassMeans}
use Rattle.cache_face.specs.declared.caches.FlowCache.{Ghosts}
use Rattle.front_cache.specs.Fronts.{FrontMeans, open_in}
use Rattle.capture_input.specs.Parts.{Answer}
use Rattle.work_pieces.specs.Doing.{HasDone}
use Rattle.meter_workers.specs.declared.share.Share.{Share}

-- The fragments that a front has open, where there is one.
abbrev pub open_of : Option FrontMeans → List Fragment
open_of None = []
open_of (Some front) = open_in front

-- The front has these time-outs, where there is one.
abbrev pub HasLimits : Timeouts → Option FrontMeans → Type 0
HasLimits limits None = Unit {0}
HasLimits limits (Some front) = front.limits ≡ limits

-- The fragments that were put in: into the cache through the pass, and into the front, where they are still open.
abbrev pub put_by : PassMeans → Option FrontMeans → List Fragment
put_by pass front = pass.note.taken ++ open_of front

-- Each packet has fewer than 2^24 octets.
abbrev pub AreSmall : List Packet → Type 0
AreSmall packets = All (λ p. p.octets < 2 ^ 24) packets

-- A pass of one seat of the cache, and a front with its time-outs, or none.
pub record IsSeatOf {X P : Type 0} (the : Ghosts X P) (cache : X) (pass : P) (front : Option FrontMeans) : Type 0 where
  pub own : the.is_of cache pass
  pub single : (the.shown pass).note.seats ≡ 1
  pub front_is : HasLimits (the.means cache).limits front

-- The share of one seat of the cache, which has metered and tallied these answers: what was put in shares out their
-- packets, the list is just what the pass was handed, and the tally is theirs.
pub record IsShareOf {X P : Type 0} (the : Ghosts X P) (cache : X) (answers : List Answer)
    (share : Share X P) : Type 0 where
  pub seated : IsSeatOf the cache share.pass share.front
  pub shared : SharesOut (the.means cache).limits (packets_in answers) (put_by (the.shown share.pass) share.front)
  pub handed : share.parts ≡ (the.shown share.pass).note.handed
  pub tallied : IsTallyOf share.tally answers
  pub small : AreSmall (packets_in answers)
  pub few : share.tally.captured ≤ 2 ^ 32

-- The share metered these answers besides, whatever it had metered before.
abbrev pub HasMetered : {X P : Type 0} → Ghosts X P → X → List Answer → Share X P → Share X P → Type 0
HasMetered the cache more old new = HasDone (IsShareOf the cache) more old new

-- The same, and its front is gone: all that was put in went into the cache.
abbrev pub IsEmptied : {X P : Type 0} → Ghosts X P → X → List Answer → Share X P → Type 0
IsEmptied the cache answers share = IsShareOf the cache answers share × (share.front ≡ None)

-- ---- places, at each of which a share stands, or that memory ran out for it

-- The share there has metered some answers.
pub record IsToEmpty {X P : Type 0} (the : Ghosts X P) (cache : X) (place : Result (Share X P) NoMemory) : Type 0 where
  pub done : List Answer
  pub is : IfOk place (IsShareOf the cache done)

-- The share there has metered these answers, and its front is gone.
abbrev pub StandsEmptied : {X P : Type 0} → Ghosts X P → X → List Answer → Result (Share X P) NoMemory → Type 0
StandsEmptied the cache answers place = IfOk place (IsEmptied the cache answers)

-- The share there was emptied.
abbrev pub HasEmptied : {X P : Type 0} → Ghosts X P → X → Result (Share X P) NoMemory → Result (Share X P) NoMemory
    → Type 0
HasEmptied the cache old new =
    (done : List Answer) → IfOk old (IsShareOf the cache done) → StandsEmptied the cache done new
