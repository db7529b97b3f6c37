-- A conversation in which each request is answered in one way is one in which it is answered in a weaker way.
use Rattle.std.proofs.Common.{ℕ, zero, suc, Bool, Option, Result, Ok, Err}
use Rattle.up_headers.specs.declared.header_fault.HeaderFault.{HeaderFault}
use Rattle.up_headers.specs.declared.request.Request.{Request}
use Rattle.up_headers.specs.declared.request.Request.TheVariants as request
use Rattle.up_wire.specs.Device.{Device}
use Rattle.up_wire.specs.declared.taken.Taken.{Taken}
use Rattle.up_message.specs.declared.response.Response.{Response}
use Rattle.up_dispatch.specs.Turn.{Answering, Converses, DiskFacts, IsAnswered, IsCutCarriedOut, IsServed, TurnsLeadTo, ConversationState, TakesTurn}
use Rattle.up_dispatch.specs.declared.ended.Ended.{Ended}

module _ {C : Type 0} (disk : DiskFacts) (a b : Answering C)
    (alike : (old new : C) (asks : Request) (response : Response) → a old new asks response → b old new asks response) where
  answered :
      (old new : C) (response : Response) (read : Result Request HeaderFault) → IsAnswered a old new response read
      → IsAnswered b old new response read
  answered old new response (Err fault) is = is
  answered old new response (Ok asks) is = alike old new asks response is

  cut : (old new : C) (read : Result Request HeaderFault) → IsCutCarriedOut a old new read → IsCutCarriedOut b old new read
  cut old new (Err fault) is = is
  cut old new (Ok request.Options) is = is
  cut old new (Ok (request.Create made)) is = is
  cut old new (Ok (request.Head u)) is = is
  cut old new (Ok (request.Patch p)) is = (is.0, alike old new (request.Patch p) is.0 is.1)
  cut old new (Ok (request.Delete u)) is = is
  cut old new (Ok (request.Get u)) is = is

  served :
      (taken : Taken) (max_size : ℕ) (is_last : Bool) (old new : C) (before after : Device) (ended : Option Ended)
      → IsServed disk a taken max_size is_last old new before after ended → IsServed disk b taken max_size is_last old new before after ended
  served (Taken.Message m) max_size is_last old new before after ended is =
      (is.0, (is.1.0, is.1.1, answered old new is.0 is.1.0 is.1.2), is.2)
  served (Taken.Cut m) max_size is_last old new before after ended is = ((is.0.0, is.0.1, cut old new is.0.0 is.0.2), is.1, is.2)
  served (Taken.Fault fault bare) max_size is_last old new before after ended is = is
  served Taken.End max_size is_last old new before after ended is = is

  turn :
      (max_size : ℕ) (is_last : Bool) (old new : ConversationState C) (ended : Option Ended) → TakesTurn disk a max_size is_last old new ended
      → TakesTurn disk b max_size is_last old new ended
  turn max_size is_last old new ended is = record {
    taken = is.taken;
    sink = is.sink;
    is_reading = is.is_reading;
    is_served = served is.taken max_size is_last old.keeper_state new.keeper_state is.sink new.sink ended is.is_served;
  }

  passes : (max_size turns : ℕ) (old new : ConversationState C) → TurnsLeadTo disk a max_size turns old new → TurnsLeadTo disk b max_size turns old new
  unfolding TurnsLeadTo
  passes max_size zero old new is = is
  passes max_size (suc turns) old new is = (is.0, passes max_size turns old is.0 is.1, turn max_size _ is.0 new _ is.2)

  pub converses_alike :
      (max_size : ℕ) (old new : ConversationState C) (ended : Ended) → Converses disk a max_size old new ended → Converses disk b max_size old new ended
  converses_alike max_size old new ended is = record {
    turns = is.turns;
    last = is.last;
    passes = passes max_size is.turns old is.last is.passes;
    ends = turn max_size _ is.last new _ is.ends;
  }
