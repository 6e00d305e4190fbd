-- Lists whose items are put one by one.
use Rattle.std.proofs.Common.{◌≡◌, ◌++◌, ◌∙◌, ◌+◌, ◌<◌, sym, ap, arith, subst, true, false, List, [], ◌∷◌, ℕ, zero, suc, append_assoc, append-nil, drop, drop-cons, take, map, length, get_or}
use Rattle.std.proofs.lemmas.List.{map_more}
use Rattle.std.proofs.lemmas.List.Sums.{count_by_more_no, count_by_more_yes}
use Rattle.emtp_case.specs.Channel.{is_status}
use Rattle.emtp_case.specs.declared.channel.Channel.{Channel}
use Rattle.emtp_case.specs.declared.expr.Node.{Node}
use Rattle.emtp_listing.specs.ChannelLines.{states_upto}
use Rattle.emtp_listing.specs.ExpressionText.{texts_after, texts_of}
use Rattle.emtp_listing.specs.Lines.{all_separated, grouped, lines_text, numbered, separated}
use Rattle.emtp_listing.specs.Puts.{Puts}
use Rattle.emtp_listing.proofs.Chains.{ended, entries_then, last, lines_then, retext}

-- one item more

numbered-more : {X : Type 0} (f : ℕ → X → List ℕ) (xs : List X) (i n : ℕ) (d : X) → i < length xs
    → numbered f n (take (suc i) xs) ≡ numbered f n (take i xs) ++ f (i + n) (get_or xs i d) ∷ []
numbered-more f [] i n d less = absurd (omega arith)
numbered-more f (x ∷ xs) zero n d less = ap (λ (k : ℕ). f k x ∷ []) (none n)
  where
    none : (n : ℕ) → n ≡ 0 + n
    none n = omega arith
numbered-more f (x ∷ xs) (suc i) n d less =
    ap (λ (ls : List (List ℕ)). f n x ∷ ls)
    (numbered-more f xs i (suc n) d (omega arith) ∙ ap (λ (k : ℕ). numbered f (suc n) (take i xs) ++ f k (get_or xs i d) ∷ []) (next i n))
  where
    next : (i n : ℕ) → i + suc n ≡ suc i + n
    next i n = omega arith

grouped-more : {X : Type 0} (f : X → List (List ℕ)) (xs : List X) (i : ℕ) (d : X) → i < length xs
    → grouped f (take (suc i) xs) ≡ grouped f (take i xs) ++ f (get_or xs i d)
grouped-more f [] i d less = absurd (omega arith)
grouped-more f (x ∷ xs) zero d less = append-nil (f x)
grouped-more f (x ∷ xs) (suc i) d less =
    ap (λ (ls : List (List ℕ)). f x ++ ls) (grouped-more f xs i d (omega arith)) ∙ sym (append_assoc (f x) (grouped f (take i xs)) (f (get_or xs i d)))

next_place : (i : ℕ) → i + 1 ≡ suc i
next_place i = omega arith

-- lines

pub line-more : {X : Type 0} {old a b new : List ℕ} (f : X → List ℕ) (xs ys : List X) (i : ℕ) (d : X) → ys ≡ xs → i < length ys
    → Puts old (lines_text (map f (take i xs))) a → Puts a (f (get_or ys i d)) b → Puts b (10 ∷ []) new
    → Puts old (lines_text (map f (take (i + 1) xs))) new
line-more {X} {old} {a} {b} {new} f xs ys i d same less front line end =
    let less' : i < length xs = subst (λ (zs : List X). i < length zs) same less in
    let line' : Puts a (f (get_or xs i d)) b = subst (λ (zs : List X). Puts a (f (get_or zs i d)) b) same line in
    retext (sym (ap lines_text (map_more f xs i d less'))) (lines_then (map f (take i xs)) (f (get_or xs i d) ∷ []) front (ended line' end))

pub group-more : {X : Type 0} {old a new : List ℕ} (f : X → List (List ℕ)) (xs ys : List X) (i : ℕ) (d : X) → ys ≡ xs → i < length ys
    → Puts old (lines_text (grouped f (take i xs))) a → Puts a (lines_text (f (get_or ys i d))) new
    → Puts old (lines_text (grouped f (take (i + 1) xs))) new
group-more {X} {old} {a} {new} f xs ys i d same less front lines =
    let less' : i < length xs = subst (λ (zs : List X). i < length zs) same less in
    let lines' : Puts a (lines_text (f (get_or xs i d))) new = subst (λ (zs : List X). Puts a (lines_text (f (get_or zs i d))) new) same lines in
    retext (sym (ap (λ (k : ℕ). lines_text (grouped f (take k xs))) (next_place i) ∙ ap lines_text (grouped-more f xs i d less')))
    (lines_then (grouped f (take i xs)) (f (get_or xs i d)) front lines')

pub number-more : {X : Type 0} {old a b new : List ℕ} (f : ℕ → X → List ℕ) (xs ys : List X) (i n number : ℕ) (d : X) → ys ≡ xs → i < length ys → number ≡ i + n
    → Puts old (lines_text (numbered f n (take i xs))) a → Puts a (f number (get_or ys i d)) b → Puts b (10 ∷ []) new
    → Puts old (lines_text (numbered f n (take (i + 1) xs))) new
number-more {X} {old} {a} {b} {new} f xs ys i n number d same less counts front line end =
    let less' : i < length xs = subst (λ (zs : List X). i < length zs) same less in
    let line' : Puts a (f (i + n) (get_or xs i d)) b = subst (λ (k : ℕ). Puts a (f k (get_or xs i d)) b) counts (subst (λ (zs : List X). Puts a (f number (get_or zs i d)) b) same line) in
    retext (sym (ap (λ (k : ℕ). lines_text (numbered f n (take k xs))) (next_place i) ∙ ap lines_text (numbered-more f xs i n d less')))
    (lines_then (numbered f n (take i xs)) (f (i + n) (get_or xs i d) ∷ []) front (ended line' end))

-- entries

pub entry-more : {X : Type 0} {old a new : List ℕ} (f : X → List ℕ) (xs ys : List X) (i : ℕ) (d : X) → ys ≡ xs → i < length ys
    → Puts old (all_separated (map f (take i xs))) a → Puts a (separated (f (get_or ys i d))) new
    → Puts old (all_separated (map f (take (i + 1) xs))) new
entry-more {X} {old} {a} {new} f xs ys i d same less front entry =
    let less' : i < length xs = subst (λ (zs : List X). i < length zs) same less in
    let entry' : Puts a (separated (f (get_or xs i d))) new = subst (λ (zs : List X). Puts a (separated (f (get_or zs i d))) new) same entry in
    retext (sym (ap all_separated (map_more f xs i d less'))) (entries_then (map f (take i xs)) (f (get_or xs i d) ∷ []) front (last entry'))

pub power-more : {X : Type 0} {old a new : List ℕ} (f : ℕ → X → List ℕ) (xs : List X) (i n number : ℕ) (d : X) → i < length xs → number ≡ i + n
    → Puts old (all_separated (numbered f n (take i xs))) a → Puts a (separated (f number (get_or xs i d))) new
    → Puts old (all_separated (numbered f n (take (i + 1) xs))) new
power-more {X} {old} {a} {new} f xs i n number d less counts front entry =
    let entry' : Puts a (separated (f (i + n) (get_or xs i d))) new = subst (λ (k : ℕ). Puts a (separated (f k (get_or xs i d))) new) counts entry in
    retext (sym (ap (λ (k : ℕ). all_separated (numbered f n (take k xs))) (next_place i) ∙ ap all_separated (numbered-more f xs i n d less)))
    (entries_then (numbered f n (take i xs)) (f (i + n) (get_or xs i d) ∷ []) front (last entry'))

-- the texts of an expression, with one more node

pub text-more : (names : List (List ℕ)) (vars vs : List ℕ) (nodes ns : List Node) (i : ℕ) (d : Node) (whole texts new : List (List ℕ)) → vs ≡ vars → ns ≡ nodes → i < length ns
    → whole ≡ texts_of names vars (drop i nodes) texts → new ≡ texts_after names vs (get_or ns i d) texts → whole ≡ texts_of names vars (drop (i + 1) nodes) new
text-more names vars vs nodes ns i d whole texts new same_vars same less front one =
    let less' : i < length nodes = subst (λ (zs : List Node). i < length zs) same less in
    let one' : new ≡ texts_after names vars (get_or nodes i d) texts =
    one ∙ ap (λ (us : List ℕ). texts_after names us (get_or ns i d) texts) same_vars ∙ ap (λ (zs : List Node). texts_after names vars (get_or zs i d) texts) same in
    front ∙ ap (λ (zs : List Node). texts_of names vars zs texts) (drop-cons nodes i d less')
    ∙ ap (λ (t : List (List ℕ)). texts_of names vars (drop (suc i) nodes) t) (sym one')
    ∙ ap (λ (k : ℕ). texts_of names vars (drop k nodes) new) (sym (next_place i))

-- how many of the first channels are states, with one more channel

pub states-with : (channels items : List Channel) (at old new : ℕ) (d : Channel) → items ≡ channels → at < length items → old ≡ states_upto channels at
    → is_status (get_or items at d) ≡ true → new ≡ old + 1 → new ≡ states_upto channels (at + 1)
states-with channels items at old new d same within was is more =
    more ∙ ap (λ (n : ℕ). n + 1) was ∙ sym (count_by_more_yes is_status channels at d (rw same at within) (rw same at is))

pub states-without : (channels items : List Channel) (at old new : ℕ) (d : Channel) → items ≡ channels → at < length items → old ≡ states_upto channels at
    → is_status (get_or items at d) ≡ false → new ≡ old → new ≡ states_upto channels (at + 1)
states-without channels items at old new d same within was is more =
    more ∙ was ∙ sym (count_by_more_no is_status channels at d (rw same at within) (rw same at is))
