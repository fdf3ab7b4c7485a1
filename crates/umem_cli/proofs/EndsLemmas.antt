-- How pieces go out.
use Rattle.std.proofs.Common.{◌≡◌, inl, inr, ℕ, List, [], ◌∷◌, ◌++◌, Option, Some, None, refl, sym, ap, subst, ◌∙◌}
use Rattle.std.specs.Prelude.{⊤}
use Rattle.std.specs.Io.KnownBytes.{Appends}
use Rattle.std.proofs.lemmas.List.{append-nil}
use Rattle.umem_base.specs.Folder.{Files}
use Rattle.umem_cli.specs.declared.status.Status.{Status}
use Rattle.umem_cli.specs.Pieces.{Delivers, DeliversPiece, Ends, FailsAt, FailsPiece, Piece, Wanted, for_err, for_file, for_out}
use Rattle.umem_cli.specs.Streams.{Outputs, Says, Store, Stream, Streams, Takes, outputs, without_store}

appends_nothing : (taken : Option (List ℕ)) → Appends taken taken []
appends_nothing None = tt
appends_nothing (Some bytes) = sym (append-nil bytes)

-- a stream takes nothing
pub takes_nothing : (stream : Stream) → Takes stream stream []
takes_nothing stream = (appends_nothing stream.taken, refl)

-- no bytes are a piece that changes nothing
pub delivers_nothing : (all : Outputs) → DeliversPiece all all (for_out [])
delivers_nothing all = (takes_nothing all.out, refl, refl)

-- one piece for the output
pub says_out : (before after : Outputs) (bytes : List ℕ) (wanted result : Status) → Says bytes wanted before.out after.out result → after.err ≡ before.err → after.store ≡ before.store
    → Ends before after (record { pieces = for_out bytes ∷ []; status = wanted }) result
says_out before after bytes wanted result (inl done) same store = inl (done.0, (after, (done.1, same, store), refl))
says_out before after bytes wanted result (inr failed) same store = inr (failed.0, inl (failed.1, same, store))

-- one piece for the error stream
pub says_err : (before after : Outputs) (bytes : List ℕ) (wanted result : Status) → Says bytes wanted before.err after.err result → after.out ≡ before.out → after.store ≡ before.store
    → Ends before after (record { pieces = for_err bytes ∷ []; status = wanted }) result
says_err before after bytes wanted result (inl done) same store = inl (done.0, (after, (same, done.1, store), refl))
says_err before after bytes wanted result (inr failed) same store = inr (failed.0, inl (same, failed.1, store))

-- a piece more
pub delivers_more : (before between after : Outputs) (pieces : List Piece) (piece : Piece) → Delivers before between pieces → DeliversPiece between after piece → Delivers before after (pieces ++ piece ∷ [])
delivers_more before between after [] piece done one = (after, subst (λ (s : Outputs). DeliversPiece s after piece) done one, refl)
delivers_more before between after (first ∷ pieces) piece done one = (done.0, done.1, delivers_more done.0 between after pieces piece done.2 one)

-- a piece more, which failed
pub fails_behind : (before between after : Outputs) (pieces : List Piece) (piece : Piece) → Delivers before between pieces → FailsPiece between after piece → FailsAt before after (pieces ++ piece ∷ [])
fails_behind before between after [] piece done one = inl (subst (λ (s : Outputs). FailsPiece s after piece) done one)
fails_behind before between after (first ∷ pieces) piece done one = inr (done.0, done.1, fails_behind done.0 between after pieces piece done.2 one)

-- ---- pieces for the streams alone

-- it is for a stream
abbrev pub IsForStream : Piece → Type 0
IsForStream (for_out bytes) = ⊤
IsForStream (for_err bytes) = ⊤
IsForStream (for_file name bytes) = ⊥

-- all of them are
abbrev pub AreForStreams : List Piece → Type 0
AreForStreams [] = ⊤
AreForStreams (piece ∷ pieces) = IsForStream piece × AreForStreams pieces

-- the same streams beside another folder
abbrev beside : Store → Outputs → Outputs
beside store all = record { out = all.out; err = all.err; store = store }

delivers_beside_one : (store : Store) (before after : Outputs) (piece : Piece) → IsForStream piece → DeliversPiece before after piece → DeliversPiece (beside store before) (beside store after) piece
delivers_beside_one store before after (for_out bytes) its done = (done.0, done.1, refl)
delivers_beside_one store before after (for_err bytes) its done = (done.0, done.1, refl)
delivers_beside_one store before after (for_file name bytes) its done = absurd its

fails_beside_one : (store : Store) (before after : Outputs) (piece : Piece) → IsForStream piece → FailsPiece before after piece → FailsPiece (beside store before) (beside store after) piece
fails_beside_one store before after (for_out bytes) its done = (done.0, done.1, refl)
fails_beside_one store before after (for_err bytes) its done = (done.0, done.1, refl)
fails_beside_one store before after (for_file name bytes) its done = absurd its

delivers_beside : (store : Store) (before after : Outputs) (pieces : List Piece) → AreForStreams pieces → Delivers before after pieces → Delivers (beside store before) (beside store after) pieces
delivers_beside store before after [] are done = ap (beside store) done
delivers_beside store before after (piece ∷ pieces) are done =
    (beside store done.0, delivers_beside_one store before done.0 piece are.0 done.1, delivers_beside store done.0 after pieces are.1 done.2)

fails_beside : (store : Store) (before after : Outputs) (pieces : List Piece) → AreForStreams pieces → FailsAt before after pieces → FailsAt (beside store before) (beside store after) pieces
fails_beside store before after [] are fails = fails
fails_beside store before after (piece ∷ pieces) are (inl failed) = inl (fails_beside_one store before after piece are.0 failed)
fails_beside store before after (piece ∷ pieces) are (inr later) =
    inr (beside store later.0, delivers_beside_one store before later.0 piece are.0 later.1, fails_beside store later.0 after pieces are.1 later.2)

-- what went to the streams went so beside any folder
pub ends_beside : (store : Store) (before after : Outputs) (wanted : Wanted) (status : Status) → AreForStreams wanted.pieces → Ends before after wanted status → Ends (beside store before) (beside store after) wanted status
ends_beside store before after wanted status are (inl done) = inl (done.0, delivers_beside store before after wanted.pieces are done.1)
ends_beside store before after wanted status are (inr failed) = inr (failed.0, fails_beside store before after wanted.pieces are failed.1)

-- two stores with the same files and the same count
pub same_store : (a b : Store) → a.files ≡ b.files → a.faults ≡ b.faults → a ≡ b
same_store a b files faults =
    ap (λ (f : Files). let its : Store = record { files = f; faults = a.faults } in its) files
    ∙ ap (λ (n : ℕ). let its : Store = record { files = b.files; faults = n } in its) faults

-- what went to the streams went so beside a folder that is left as it was
pub ends_beside_same : (before after : Streams) (store left : Store) (wanted : Wanted) (status : Status) → left ≡ store → AreForStreams wanted.pieces
    → Ends (without_store before) (without_store after) wanted status → Ends (outputs before store) (outputs after left) wanted status
ends_beside_same before after store left wanted status same are ends =
    subst (λ (s : Store). Ends (outputs before store) (outputs after s) wanted status) (sym same)
    (ends_beside store (without_store before) (without_store after) wanted status are ends)
