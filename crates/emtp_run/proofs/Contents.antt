-- One file more: what was read so far, how much was taken, and how often a file was opened.
use Rattle.std.proofs.Common.{◌≡◌, ◌∙◌, ap, sym, inl, inr, ℕ, ◌+◌, ◌<◌, List, [], ◌∷◌, ◌++◌, length, take, drop, Option, Some, None, IsSome, add-one, arith, subst, refl, append-nil}
use Rattle.std.proofs.Math.Seq.{take-suc}
use Rattle.std.proofs.lemmas.List.{get_or-map, length-map, map-append, take-append-drop}
use Rattle.std.proofs.lemmas.List.Elements.{All-cons, All-nil}
use Rattle.std.specs.Prelude.{slice_index_or}
use Rattle.std.specs.declared.alloc.Global.{Global}
use Rattle.std.specs.declared.vec.Vec.{Vec}
use Rattle.emtp_io.specs.Cabinet.{one_more as one_more_call}
use Rattle.emtp_io.specs.Whole.{TookFront}
use Rattle.emtp_run.specs.Inputs.{Input, OpenedSome, TookOfLast, TookOfOne, and_content, content, contents, opens_after, text_at}
use Rattle.emtp_run.specs.held.Inputs.{FilesAreThere, named_input, named_inputs, texts_of}
use Rattle.emtp_run.specs.declared.reading.InputFile.{InputFile}

-- ---- what was read

with_last : Option (List (List ℕ)) → Option (List ℕ) → Option (List (List ℕ))
with_last None last = None
with_last (Some texts) None = None
with_last (Some texts) (Some text) = Some (texts ++ text ∷ [])

moved_in : (first : Option (List ℕ)) (texts : Option (List (List ℕ))) (last : Option (List ℕ)) → and_content first (with_last texts last) ≡ with_last (and_content first texts) last
unfolding with_last
moved_in None texts last = refl
moved_in (Some text) None last = refl
moved_in (Some text) (Some texts) None = refl
moved_in (Some text) (Some texts) (Some last) = refl

contents-last : (files : List ℕ → Option (List ℕ)) (inputs : List Input) (input : Input) → contents files (inputs ++ input ∷ []) ≡ with_last (contents files inputs) (content files input)
unfolding with_last
contents-last files [] input = by (content files input)
  where
    by : (text : Option (List ℕ)) → and_content text (Some []) ≡ with_last (Some []) text
    by None = refl
    by (Some text) = refl
contents-last files (first ∷ inputs) input = ap (and_content (content files first)) (contents-last files inputs input) ∙ moved_in (content files first) (contents files inputs) (content files input)

one_more : (files : List ℕ → Option (List ℕ)) (inputs : List Input) (input : Input) (texts : List (List ℕ)) (text : List ℕ)
    → contents files inputs ≡ Some texts → content files input ≡ Some text → contents files (inputs ++ input ∷ []) ≡ Some (texts ++ text ∷ [])
unfolding with_last
one_more files inputs input texts text h is = contents-last files inputs input ∙ ap (λ m. with_last m (content files input)) h ∙ ap (with_last (Some texts)) is

-- the files up to the one at a place, and the others
front_is : (inputs : List InputFile) (at : ℕ) (d : InputFile) → at < length inputs
    → named_inputs (take (at + 1) inputs) ≡ named_inputs (take at inputs) ++ named_input (slice_index_or inputs at d) ∷ []
front_is inputs at d within =
    let front : take (at + 1) inputs ≡ take at inputs ++ slice_index_or inputs at d ∷ [] = rw add-one (take-suc inputs at d within) in
    ap named_inputs front ∙ map-append named_input (take at inputs) (slice_index_or inputs at d ∷ [])

all_is : (inputs : List InputFile) (at : ℕ) → named_inputs inputs ≡ named_inputs (take at inputs) ++ named_inputs (drop at inputs)
all_is inputs at = ap named_inputs (sym (take-append-drop at inputs)) ∙ map-append named_input (take at inputs) (drop at inputs)

-- what a turn of the loop leaves
pub read_more : (files : List ℕ → Option (List ℕ)) (inputs : List InputFile) (at : ℕ) (d : InputFile) (old new : List (Vec ℕ Global)) (text : Vec ℕ Global) → at < length inputs
    → contents files (named_inputs (take at inputs)) ≡ Some (texts_of old) → content files (named_input (slice_index_or inputs at d)) ≡ Some text.items → new ≡ old ++ text ∷ []
    → contents files (named_inputs (take (at + 1) inputs)) ≡ Some (texts_of new)
read_more files inputs at d old new text within was is new_is =
    ap (contents files) (front_is inputs at d within)
    ∙ one_more files (named_inputs (take at inputs)) (named_input (slice_index_or inputs at d)) (texts_of old) text.items was is
    ∙ ap Some (sym (ap texts_of new_is ∙ map-append (λ (t : Vec ℕ Global). t.items) old (text ∷ [])))

-- ---- which files are there

pub there_at : (files : List ℕ → Option (List ℕ)) (inputs : List InputFile) (at : ℕ) (d : InputFile) → FilesAreThere files (named_inputs inputs) → at < length inputs → FilesAreThere files (named_input (slice_index_or inputs at d) ∷ [])
there_at files inputs at d there within =
    All-cons (λ (input : Input). IsSome (files input.name)) (named_input (slice_index_or inputs at d)) []
    (subst (λ (input : Input). IsSome (files input.name)) (get_or-map named_input inputs at d (named_input d) within) (there at (named_input d) (omega (arith, within, length-map inputs named_input))))
    (All-nil (λ (input : Input). IsSome (files input.name)))

-- what is read of all files is known only where they are there
pub contents-there : (files : List ℕ → Option (List ℕ)) (inputs : List Input) (texts : List (List ℕ)) → contents files inputs ≡ Some texts → FilesAreThere files inputs
contents-there files [] texts is = All-nil (λ (input : Input). IsSome (files input.name))
contents-there files (input ∷ more) texts is = by (files input.name) (contents files more) refl refl (contents-there files more)
  where
    by : (file : Option (List ℕ)) (others : Option (List (List ℕ))) → files input.name ≡ file → contents files more ≡ others
        → ((read : List (List ℕ)) → contents files more ≡ Some read → FilesAreThere files more) → FilesAreThere files (input ∷ more)
    by None others file are later = absurd (cc)
    by (Some bytes) None file are later = absurd (cc)
    by (Some bytes) (Some read) file are later = All-cons (λ (i : Input). IsSome (files i.name)) input more (rw file refl) (later read are)

-- ---- how much was taken

none_of : (files : List ℕ → Option (List ℕ)) (inputs : List Input) (old new : Option (List ℕ)) → new ≡ old → TookOfOne files inputs old new
none_of files [] old new same = same
none_of files (input ∷ more) old new same = inr (none_of files more old new same)

took_last : (files : List ℕ → Option (List ℕ)) (inputs : List Input) (input : Input) (old new : Option (List ℕ)) → TookFront input.bound (files input.name) new → TookOfLast files (inputs ++ input ∷ []) old new
took_last files [] input old new took = took
took_last files (first ∷ []) input old new took = took
took_last files (first ∷ second ∷ inputs) input old new took = took_last files (second ∷ inputs) input old new took

-- the last file is one of them
last_is_one : (files : List ℕ → Option (List ℕ)) (inputs more : List Input) (old new : Option (List ℕ)) → TookOfLast files inputs old new → TookOfOne files (inputs ++ more) old new
last_is_one files [] more old new took = none_of files more old new took
last_is_one files (input ∷ []) more old new took = inl took
last_is_one files (input ∷ next ∷ inputs) more old new took = inr (last_is_one files (next ∷ inputs) more old new took)

pub one_of : (files : List ℕ → Option (List ℕ)) (inputs : List Input) (old new : Option (List ℕ)) → TookOfLast files inputs old new → TookOfOne files inputs old new
one_of files inputs old new took = subst (λ (xs : List Input). TookOfOne files xs old new) (append-nil inputs) (last_is_one files inputs [] old new took)

-- a file more was read
pub took_more : (files : List ℕ → Option (List ℕ)) (inputs : List InputFile) (at : ℕ) (d : InputFile) (old new : Option (List ℕ)) → at < length inputs
    → TookFront (slice_index_or inputs at d).bound (files (slice_index_or inputs at d).name.now) new → TookOfLast files (named_inputs (take (at + 1) inputs)) old new
took_more files inputs at d old new within took =
    rw (front_is inputs at d within) (took_last files (named_inputs (take at inputs)) (named_input (slice_index_or inputs at d)) old new took)

-- it stopped behind so many files
pub took_upto : (files : List ℕ → Option (List ℕ)) (inputs : List InputFile) (at : ℕ) (old new : Option (List ℕ))
    → TookOfLast files (named_inputs (take at inputs)) old new → TookOfOne files (named_inputs inputs) old new
took_upto files inputs at old new took = rw (all_is inputs at) (last_is_one files (named_inputs (take at inputs)) (named_inputs (drop at inputs)) old new took)

-- it stopped in a file, or where that was to be opened
pub took_stopped : (files : List ℕ → Option (List ℕ)) (inputs : List InputFile) (at : ℕ) (d : InputFile) (old mid new : Option (List ℕ)) → at < length inputs
    → TookOfLast files (named_inputs (take at inputs)) old mid → TookOfOne files (named_input (slice_index_or inputs at d) ∷ []) mid new → TookOfOne files (named_inputs inputs) old new
took_stopped files inputs at d old mid new within before (inl took) =
    took_upto files inputs (at + 1) old new (took_more files inputs at d old new within took)
took_stopped files inputs at d old mid new within before (inr same) =
    took_upto files inputs at old new (subst (λ (o : Option (List ℕ)). TookOfLast files (named_inputs (take at inputs)) old o) (sym same) before)

-- ---- how often `open` was called

opens-last : (inputs : List Input) (input : Input) (count : ℕ) → opens_after (inputs ++ input ∷ []) count ≡ one_more_call (opens_after inputs count)
opens-last [] input count = refl
opens-last (first ∷ inputs) input count = opens-last inputs input (one_more_call count)

-- it was called for the first files, and for no other
opened_front : (inputs more : List Input) (before now : ℕ) → now ≡ opens_after inputs before → OpenedSome (inputs ++ more) before now
opened_front [] [] before now is = is
opened_front [] (input ∷ more) before now is = inl is
opened_front (input ∷ inputs) more before now is = inr (opened_front inputs more (one_more_call before) now is)

pub opened_all : (inputs : List Input) (before now : ℕ) → now ≡ opens_after inputs before → OpenedSome inputs before now
opened_all inputs before now is = subst (λ (xs : List Input). OpenedSome xs before now) (append-nil inputs) (opened_front inputs [] before now is)

-- for a file more
pub opens_more : (inputs : List InputFile) (at : ℕ) (d : InputFile) (before mid now : ℕ) → at < length inputs
    → mid ≡ opens_after (named_inputs (take at inputs)) before → now ≡ one_more_call mid → now ≡ opens_after (named_inputs (take (at + 1) inputs)) before
opens_more inputs at d before mid now within first more =
    rw (front_is inputs at d within) (more ∙ ap one_more_call first ∙ sym (opens-last (named_inputs (take at inputs)) (named_input (slice_index_or inputs at d)) before))

-- it stopped behind so many files
pub opened_upto : (inputs : List InputFile) (at before now : ℕ) → now ≡ opens_after (named_inputs (take at inputs)) before → OpenedSome (named_inputs inputs) before now
opened_upto inputs at before now is = rw (all_is inputs at) (opened_front (named_inputs (take at inputs)) (named_inputs (drop at inputs)) before now is)

-- it stopped in a file, or where that was to be opened
pub opened_stopped : (inputs : List InputFile) (at : ℕ) (d : InputFile) (before mid now : ℕ) → at < length inputs
    → mid ≡ opens_after (named_inputs (take at inputs)) before → OpenedSome (named_input (slice_index_or inputs at d) ∷ []) mid now → OpenedSome (named_inputs inputs) before now
opened_stopped inputs at d before mid now within first (inl same) = opened_upto inputs at before now (same ∙ first)
opened_stopped inputs at d before mid now within first (inr more) = opened_upto inputs (at + 1) before now (opens_more inputs at d before mid now within first more)

-- ---- the texts that were read

-- the bytes of the text at a place
pub text_at-is : (texts : List (Vec ℕ Global)) (at : ℕ) (d : Vec ℕ Global) → at < length texts → text_at at (texts_of texts) ≡ (slice_index_or texts at d).items
text_at-is texts at d within = get_or-map (λ (t : Vec ℕ Global). t.items) texts at d [] within
