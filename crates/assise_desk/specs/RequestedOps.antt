-- The call of a client that a request asks for.
use Rattle.std.specs.Prelude.{◌≡◌, ℕ, ◌+◌, ◌<◌, ◌≤◌, min, List, take, drop, Ok, Err}
use Rattle.std.specs.Str.{IsUtf8}
use Rattle.assise_names.specs.Path.{path_of}
use Rattle.assise_names.specs.declared.call.Op.{Op}
use Rattle.assise_names.specs.declared.call.Op.TheVariants as ops
use Rattle.assise_names.specs.declared.path.PathFault.{PathFault}
use Rattle.assise_names.specs.declared.path.PathFault.TheVariants.{BadName}
use Rattle.assise_desk.specs.declared.desk_request.TheConstants.{DESK_BYTES}
use Rattle.assise_desk.specs.declared.desk_call.ClientCall.{ClientCall}
use Rattle.assise_desk.specs.declared.desk_call.ClientCall.TheVariants.{Create, Mkdir, Read, Write, Truncate, Rename, Unlink, Rmdir, List as Listing, Stat, Fsync, Dsync}
use Rattle.assise_desk.specs.declared.desk_fault.DeskFault.{DeskFault}
use Rattle.assise_desk.specs.declared.desk_fault.DeskFault.TheVariants as faults
use Rattle.assise_desk.specs.declared.desk_request.DeskRequest.{DeskRequest}
use Rattle.assise_desk.specs.FaultCodes.{no_memory, of_path_fault}

-- ---- a path

-- the bytes spell this path
abbrev pub PathIs : List ℕ → List (List ℕ) → Type 0
PathIs bytes path = path_of bytes ≡ Ok path

-- the bytes spell none: they are no text, or have this fault; or there is no memory for it
pub data MayFaultPath (bytes : List ℕ) (fault : DeskFault) : Type 0 where
  is_no_text : (IsUtf8 bytes → ⊥) → fault ≡ faults.Path BadName → MayFaultPath bytes fault
  has_fault : (found : PathFault) → path_of bytes ≡ Err found → fault ≡ of_path_fault found → MayFaultPath bytes fault
  path_lacks_memory : fault ≡ no_memory → MayFaultPath bytes fault

-- ---- a call

-- a call of one path
pub record RequestsAt (bytes : List ℕ) (what : List (List ℕ) → Op) (op : Op) : Type 0 where
  pub path : List (List ℕ)
  pub spelled : PathIs bytes path
  pub op_is : op ≡ what path

-- a call of two paths
pub record RequestsAtBoth (bytes others : List ℕ) (op : Op) : Type 0 where
  pub path : List (List ℕ)
  pub other : List (List ℕ)
  pub spelled : PathIs bytes path
  pub other_spelled : PathIs others other
  pub op_is : op ≡ ops.Rename path other

-- the call that a request of this number asks for, with its path and the bytes behind it
abbrev pub RequestsOp : ClientCall → DeskRequest → List ℕ → List ℕ → Op → Type 0
RequestsOp Create r bytes others op = RequestsAt bytes ops.Create op
RequestsOp Mkdir r bytes others op = RequestsAt bytes ops.Mkdir op
RequestsOp Read r bytes others op = RequestsAt bytes (λ path. ops.Read path r.first (min r.second DESK_BYTES)) op
RequestsOp Write r bytes others op = RequestsAt bytes (λ path. ops.Write path r.first others) op
RequestsOp Truncate r bytes others op = RequestsAt bytes (λ path. ops.Truncate path r.first) op
RequestsOp Rename r bytes others op = RequestsAtBoth bytes others op
RequestsOp Unlink r bytes others op = RequestsAt bytes ops.Unlink op
RequestsOp Rmdir r bytes others op = RequestsAt bytes ops.Rmdir op
RequestsOp Listing r bytes others op = RequestsAt bytes ops.List op
RequestsOp Stat r bytes others op = RequestsAt bytes ops.Stat op
RequestsOp Fsync r bytes others op = op ≡ ops.Fsync
RequestsOp Dsync r bytes others op = op ≡ ops.Dsync

-- of two paths the first's fault is told, and the other's only where the first is a path
pub data MayFaultEither (bytes others : List ℕ) (fault : DeskFault) : Type 0 where
  first_faults : MayFaultPath bytes fault → MayFaultEither bytes others fault
  other_faults : (path : List (List ℕ)) → PathIs bytes path → MayFaultPath others fault → MayFaultEither bytes others fault

-- why it asks for none
abbrev pub MayFault : ClientCall → List ℕ → List ℕ → DeskFault → Type 0
MayFault Create bytes others fault = MayFaultPath bytes fault
MayFault Mkdir bytes others fault = MayFaultPath bytes fault
MayFault Read bytes others fault = MayFaultPath bytes fault
MayFault Write bytes others fault = MayFaultPath bytes fault
MayFault Truncate bytes others fault = MayFaultPath bytes fault
MayFault Rename bytes others fault = MayFaultEither bytes others fault
MayFault Unlink bytes others fault = MayFaultPath bytes fault
MayFault Rmdir bytes others fault = MayFaultPath bytes fault
MayFault Listing bytes others fault = MayFaultPath bytes fault
MayFault Stat bytes others fault = MayFaultPath bytes fault
MayFault Fsync bytes others fault = ⊥
MayFault Dsync bytes others fault = ⊥

-- ---- in the bytes of a desk

abbrev pub path_asked : DeskRequest → List ℕ → List ℕ
path_asked r bytes = take r.path_bytes bytes

abbrev pub other_asked : DeskRequest → List ℕ → List ℕ
other_asked r bytes = take r.other_bytes (drop r.path_bytes bytes)

-- a desk has room for the path and the bytes behind it
abbrev pub HasRoom : DeskRequest → Type 0
HasRoom r = r.path_bytes + r.other_bytes ≤ DESK_BYTES

-- the call that the request asks for, with its path and the bytes behind it
pub record IsRequestedAt (call : ClientCall) (r : DeskRequest) (bytes : List ℕ) (op : Op) : Type 0 where
  pub room : HasRoom r
  pub asked : RequestsOp call r (path_asked r bytes) (other_asked r bytes) op

-- it asks for none: its bytes are more than a desk has, or spell no path, or there is no memory for it
pub data MayAskForNone (call : ClientCall) (r : DeskRequest) (bytes : List ℕ) (fault : DeskFault) : Type 0 where
  has_too_many_bytes : DESK_BYTES < r.path_bytes + r.other_bytes → fault ≡ faults.BadRequest → MayAskForNone call r bytes fault
  has_no_call : HasRoom r → MayFault call (path_asked r bytes) (other_asked r bytes) fault → MayAskForNone call r bytes fault
