use Rattle.std.proofs.Common.{◌≡◌, ◌++◌, List, sym, subst, IsPermutation}
use Rattle.std.proofs.lemmas.Result.{on_ok_weaker}
use Rattle.std.proofs.lemmas.List.Sorted.{IsPermutation-refl, IsPermutation-sym, IsPermutation-trans}
use Rattle.std.proofs.lemmas.List.Sorted.{IsPermutation-append_left, IsPermutation-append_comm}
use Rattle.flow_parts.specs.declared.timeouts.Timeouts.{Timeouts}
use Rattle.flow_parts.specs.declared.fragment.Fragment.{Fragment}
use Rattle.flow_parts.specs.Reaching.{Reaches}
use Rattle.flow_parts.proofs.Reaching.{turned, shared}
use Rattle.turn_cache.specs.Shown.{shown_of}
use Rattle.turn_cache.proofs.face.TurnCachesCaches.close.Goals as goal

-- the fragments that were handed out stand first
handed_reached : (limits : Timeouts) (taken entries handed given all : List Fragment) → IsPermutation given handed
    → all ≡ given ++ entries → Reaches limits taken (entries ++ handed) → Reaches limits taken all
handed_reached limits taken entries handed given all same is reached =
    subst (Reaches limits taken) (sym is)
    (turned limits taken taken (entries ++ handed) (given ++ entries) (IsPermutation-refl taken)
    (IsPermutation-trans (entries ++ handed) (handed ++ entries) (given ++ entries)
    (IsPermutation-append_comm entries handed)
    (IsPermutation-append_left entries handed given (IsPermutation-sym given handed same)))
    reached)

pub returns-clause-reached : goal.returns-clause-reached
returns-clause-reached c =
    let note = (shown_of c.args.pass).note in
    let limits = c.args.cache.timeouts in
    on_ok_weaker c.closed_with.result
    (λ is. handed_reached limits note.taken c.in_ok-entries.entries.items note.handed c.args.handed _
    c.requires.handed is c.in_ok-entries.ensures.reached) c.closed_with.ensures.closed

pub returns-clause-shared : goal.returns-clause-shared
returns-clause-shared c =
    let note = (shown_of c.args.pass).note in
    let limits = c.args.cache.timeouts in
    on_ok_weaker c.closed_with.result
    (λ is packets shares. shared limits packets note.taken _
    (handed_reached limits note.taken c.in_ok-entries.entries.items note.handed c.args.handed _
    c.requires.handed is c.in_ok-entries.ensures.reached) shares) c.closed_with.ensures.closed
