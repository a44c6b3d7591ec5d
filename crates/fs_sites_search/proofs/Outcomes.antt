-- A condition reaches itself through its boxes, so that it may cross threads is shown of one layer of it.
use denote.RattleType.{RattleType}
use denote.Hole.{as_row}
use denote.Hole.FixSend.{Sends, Syncs, fix_send, fix_sync}
use denote.Struct.Field.{row_field, u8-field, u32-field}
use denote.Param.Send.{IsSend, IsSync, plain_send, plain_sync}
use denote.Param.SendFields.{as_row_send, as_row_sync, variants_send, variants_sync}
use Rattle.std.proofs.Crossing.{Box-send, Box-sync}
use Rattle.std.specs.contracts.boxed.Box as Box
use Rattle.std.specs.contracts.alloc.Global as Heap
use Rattle.std.specs.contracts.impls.GlobalAllocator.TheImpl.{ghosts}
use Rattle.fs_instr.specs.contracts.reg.Reg as Reg
use Rattle.fs_instr.proofs.reg.Reg.TheSendSync as reg
use Rattle.fs_model.specs.contracts.outcome.Outcome as Outcome
use Rattle.fs_model.specs.contracts.outcome.Outcome.TheKnot as knot
use Rattle.fs_model.specs.declared.outcome.Outcome.TheBlock as block

abbrev boxed : RattleType → RattleType
boxed R = Box.the_row R Heap.the_row ghosts

boxed_send : (R : RattleType) → IsSend R → IsSend (as_row (row_field (boxed R)))
boxed_send R s = as_row_send (row_field (boxed R)) (Box-send R s)

boxed_sync : (R : RattleType) → IsSync R → IsSync (as_row (row_field (boxed R)))
boxed_sync R s = as_row_sync (row_field (boxed R)) (Box-sync R s)

byte_send : IsSend (as_row (row_field (as_row u8-field)))
byte_send = as_row_send (row_field (as_row u8-field)) (as_row_send u8-field (plain_send _ _ _ _ _))

byte_sync : IsSync (as_row (row_field (as_row u8-field)))
byte_sync = as_row_sync (row_field (as_row u8-field)) (as_row_sync u8-field (plain_sync _ _ _ _ _))

word_send : IsSend (as_row (row_field (as_row u32-field)))
word_send = as_row_send (row_field (as_row u32-field)) (as_row_send u32-field (plain_send _ _ _ _ _))

word_sync : IsSync (as_row (row_field (as_row u32-field)))
word_sync = as_row_sync (row_field (as_row u32-field)) (as_row_sync u32-field (plain_sync _ _ _ _ _))

register_send : IsSend (as_row (row_field (as_row Reg.the_field)))
register_send = as_row_send (row_field (as_row Reg.the_field)) reg.the_send

register_sync : IsSync (as_row (row_field (as_row Reg.the_field)))
register_sync = as_row_sync (row_field (as_row Reg.the_field)) reg.the_sync

sends : (i : block.the_members) → Sends Outcome.the_ring i
sends block.member-Outcome = record {
  send = λ h all.
      let r = h block.member-Outcome in
      let b = boxed_send r (all block.member-Outcome) in
      variants_send (knot.type-Outcome r r r r r) (tt, (tt, ((byte_send, (register_send, (word_send, tt))), ((byte_send, (word_send, tt)), ((b, tt), ((b, (b, tt)), ((b, (b, tt)), tt)))))));
}

syncs : (i : block.the_members) → Syncs Outcome.the_ring i
syncs block.member-Outcome = record {
  sync = λ h all.
      let r = h block.member-Outcome in
      let b = boxed_sync r (all block.member-Outcome) in
      variants_sync (knot.type-Outcome r r r r r) (tt, (tt, ((byte_sync, (register_sync, (word_sync, tt))), ((byte_sync, (word_sync, tt)), ((b, tt), ((b, (b, tt)), ((b, (b, tt)), tt)))))));
}

pub hole_send : IsSend Outcome.the_hole
hole_send = fix_send Outcome.the_ring sends block.member-Outcome

pub hole_sync : IsSync Outcome.the_hole
hole_sync = fix_sync Outcome.the_ring syncs block.member-Outcome
