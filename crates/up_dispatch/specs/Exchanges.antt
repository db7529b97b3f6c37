-- A conversation as its exchange shows it.
use Rattle.std.specs.Prelude.{◌≡◌, Bool, true}
use Rattle.up_dispatch.specs.Answering.{KeeperState, keeper_state}
use Rattle.up_dispatch.specs.Turn.{ConversationState, DiskFacts, conversation_state}
use Rattle.up_dispatch.specs.declared.exchange.Exchange.{Exchange}
use Rattle.up_wire.specs.Device.{Device}

-- the state of the keeper, the ids, and the devices of the source and the sink
abbrev pub stand_in : {S I R W : Type 0} → (R → Device) → (W → Device) → S → Exchange I R W → ConversationState (KeeperState S I)
stand_in source sink state exchange =
    conversation_state (keeper_state state exchange.ids.now) (source exchange.source.now) (sink exchange.sink.now)

-- what is known of a disk with these ghosts
abbrev pub facts_of : {S : Type 0} → (S → Type 0) → (S → Bool) → S → DiskFacts
facts_of is_true has_failed disk = record { is_true = is_true disk; has_failed = has_failed disk ≡ true }

-- the exchange still holds the same three borrows
abbrev pub KeepsBorrows : {I R W : Type 0} → Exchange I R W → Exchange I R W → Type 0
KeepsBorrows old new =
    (new.ids.ghost_name ≡ old.ids.ghost_name)
    × (new.source.ghost_name ≡ old.source.ghost_name)
    × (new.sink.ghost_name ≡ old.sink.ghost_name)
