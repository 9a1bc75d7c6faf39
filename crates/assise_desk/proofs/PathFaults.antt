-- Why a request asks for no call.
use Rattle.assise_desk.proofs.Common.{◌≡◌, ◌⊎◌, inl, inr, ℕ, List, Err, refl, ap, ◌∙◌, subst, ClientCall, DeskFault, MayFault, MayFaultPath, first_faults}
use Rattle.assise_desk.proofs.Common.{has_fault, path_lacks_memory}
use Rattle.assise_names.specs.Path.{path_of}
use Rattle.assise_names.specs.declared.path.PathFault.{PathFault}
use Rattle.assise_names.specs.declared.path.PathFault.TheVariants.{Memory}
use Rattle.assise_desk.specs.declared.desk_call.ClientCall.TheVariants.{Create, Mkdir, Read, Write, Truncate, Rename, Unlink, Rmdir, List as Listing, Stat}
use Rattle.assise_desk.specs.declared.desk_call.ClientCall.TheVariants.{Fsync, Dsync}
use Rattle.assise_desk.specs.FaultCodes.{of_path_fault}

-- the text that the bytes are has this fault, or there is no memory for its path
pub fault_of_text : (bytes text : List ℕ) (found : PathFault) (fault : DeskFault) → text ≡ bytes → (found ≡ Memory) ⊎ (path_of text ≡ Err found) →
    fault ≡ of_path_fault found
    → MayFaultPath bytes fault
fault_of_text bytes text found fault same (inl memory) is = path_lacks_memory (is ∙ ap of_path_fault memory)
fault_of_text bytes text found fault same (inr spelled) is = has_fault found (subst (λ x. path_of x ≡ Err found) same spelled) is

-- each call but an fsync and a dsync has a path
pub fault_of_path : (call : ClientCall) (bytes others : List ℕ) (fault : DeskFault) → (call ≡ Fsync → ⊥) → (call ≡ Dsync → ⊥) → MayFaultPath bytes fault →
    MayFault call bytes others fault
fault_of_path Create bytes others fault other besides h = h
fault_of_path Mkdir bytes others fault other besides h = h
fault_of_path Read bytes others fault other besides h = h
fault_of_path Write bytes others fault other besides h = h
fault_of_path Truncate bytes others fault other besides h = h
fault_of_path Rename bytes others fault other besides h = first_faults h
fault_of_path Unlink bytes others fault other besides h = h
fault_of_path Rmdir bytes others fault other besides h = h
fault_of_path Listing bytes others fault other besides h = h
fault_of_path Stat bytes others fault other besides h = h
fault_of_path Fsync bytes others fault other besides h = absurd (other refl)
fault_of_path Dsync bytes others fault other besides h = absurd (besides refl)
