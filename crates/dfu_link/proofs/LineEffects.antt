-- The effect of a line follows from the meaning of the line.
use Rattle.std.proofs.Common.{◌≡◌, ℕ, List, [], ◌∷◌, Option, Some, None, refl, sym, ap, ◌∙◌, subst, arith, cond, true, false, Bool}
use Rattle.std.proofs.lemmas.Bool.Decides.{nat_tests}
use Rattle.std.proofs.lemmas.Slice.Eq.{bytes_eq-Decides}
use Rattle.std.specs.Prelude.{◌==◌, nat_le, length, unwrap_or, replicate, codes, Result, Ok, Err, ok_or}
use Rattle.std.specs.Str.{bytes_eq}
use Rattle.dfu_sim.specs.declared.offering.Purpose.{Purpose}
use Rattle.dfu_sim.specs.declared.offering.Purpose.TheVariants.{Install, Verify}
use Rattle.dfu_link.specs.Words.{ok_of, hex_word_bytes, number_of, first_word, text_behind, words_of}
use Rattle.dfu_link.specs.Fields.{number_at_most, count_of, attributes_of_word, unit_of_word, sector_of, objection_of_word, named_bytes}
use Rattle.dfu_link.specs.Keywords.{keyword_of, later_keyword_of, fate_keyword_of}
use Rattle.dfu_sim.specs.Happening.{Fate}
use Rattle.dfu_link.specs.LineContent.{ConfigLine, SetsDeviceIds, SetsDevice, SetsUnit, SetsSector, SetsPace, SetsCapacity, SetsImage, SetsCheck, EventLine, Offer, Upload, Abort, Go, Time, Reset, Cut, Refuse, LineContent, Blank, SetsConfig, SetsLimits, Does, GoesOn, Show, ExpectsText}
use Rattle.dfu_link.specs.Lines.{◌>>=◌, word_field, number_field, short_at, hex_at, offered_file, identifier_at, line_ends, ids_content, device_content, unit_content, erase_content, pace_content, capacity_content, image_content, check_content, limits_content, offer_content, time_of, refuse_content, pass_content, slip_content, harmed_content, until_content, go_content, expect_content, by_keyword, is_comment, line_meaning, read_line, line_of}
use Rattle.dfu_link.specs.declared.scripting.fault.Field.TheVariants.{Times}
use Rattle.dfu_link.specs.declared.scripting.fault.LineFault.{LineFault}
use Rattle.dfu_link.specs.declared.scripting.fault.LineFault.TheVariants.{Long, Keyword}
use Rattle.dfu_link.proofs.WordLaws.{bound_option_is_some, guarded_value_is_itself}
use Rattle.dfu_sim.specs.Headline.{SessionBeginning, BeginningWithOffer, BeginningAsUpload}
use Rattle.dfu_link.specs.Printed.{LineEffect, Nothing, FactoryImageEffect, Events, SomePassesEffect, ShowEffect, first_word_bytes, file_in, first_word_number, effect_of_go, effect_of_words, effect_of_line}

-- Effects of a line by its meaning.

-- For each event of a line, the session that it may begin, or None if it begins none.
abbrev pub sessions_of_event_line : EventLine → List (Option SessionBeginning)
sessions_of_event_line (Offer purpose file) = Some (BeginningWithOffer file) ∷ []
sessions_of_event_line Upload = Some BeginningAsUpload ∷ []
sessions_of_event_line Abort = None ∷ []
sessions_of_event_line (Go f harm times) = replicate times None
sessions_of_event_line (Time ms) = None ∷ []
sessions_of_event_line Reset = None ∷ []
sessions_of_event_line Cut = None ∷ []
sessions_of_event_line (Refuse why) = None ∷ []

-- Effect of a configuration line.
abbrev pub effect_of_config_line : ConfigLine → LineEffect
effect_of_config_line (SetsDeviceIds ids) = Nothing
effect_of_config_line (SetsDevice functional least busy manifest) = Nothing
effect_of_config_line (SetsUnit unit) = Nothing
effect_of_config_line (SetsSector n) = Nothing
effect_of_config_line (SetsPace erase program) = Nothing
effect_of_config_line (SetsCapacity n) = Nothing
effect_of_config_line (SetsImage image) = FactoryImageEffect image
effect_of_config_line (SetsCheck front) = Nothing

-- Effect of a line by its meaning.
abbrev pub effect_of_content : LineContent → LineEffect
effect_of_content Blank = Nothing
effect_of_content (SetsConfig s) = effect_of_config_line s
effect_of_content (SetsLimits actions restarts) = Nothing
effect_of_content (Does events) = Events (sessions_of_event_line events)
effect_of_content GoesOn = SomePassesEffect
effect_of_content Show = ShowEffect
effect_of_content (ExpectsText text) = Events []

-- Lemmas about the steps of parsing a line.

abbrev same : {A : Type 0} → Result A LineFault → Result A LineFault → Type 0
same a b = a ≡ b

ok_determines_value : {A : Type 0} (x y : A) → same (Ok x) (Ok y) → x ≡ y
ok_determines_value x y h = ap (λ (r : Result _ LineFault). unwrap_or (ok_of r) x) h

bound_result_is_ok : {A B P : Type 0} (x : Result A LineFault) (f : A → Result B LineFault) (y : B) → (x >>= f) ≡ Ok y
    → ((a : A) → x ≡ Ok a → f a ≡ Ok y → P) → P
bound_result_is_ok (Err e) f y h k = absurd cc
bound_result_is_ok (Ok a) f y h k = k a refl h

-- If two steps of parsing in a row succeed, the first one returns some value, and the second one succeeds with that value.
read_value_is_there : {A B P : Type 0} (x : Option A) (e : LineFault) (f : A → Result B LineFault) (y : B) → (ok_or x e >>= f) ≡ Ok y
    → ((a : A) → x ≡ Some a → f a ≡ Ok y → P) → P
read_value_is_there None e f y h k = absurd cc
read_value_is_there (Some a) e f y h k = k a refl h

ok_choice_is_first : {A : Type 0} (t : Bool) (e : LineFault) (x : Result A LineFault) (y : A) → cond t x (Err e) ≡ Ok y → x ≡ Ok y
ok_choice_is_first true e x y h = h
ok_choice_is_first false e x y h = absurd cc

-- If parsing by a choice of keywords succeeds, either the test holds and the first keyword led to the result, or one of the remaining
-- keywords led to it.
choice_has_two_cases : {A K P : Type 0} (t : Bool) (k : K) (rest : Option K) (e : LineFault) (f : K → Result A LineFault) (y : A)
    → (ok_or (cond t (Some k) rest) e >>= f) ≡ Ok y → (t ≡ true → f k ≡ Ok y → P) → ((ok_or rest e >>= f) ≡ Ok y → P) → P
choice_has_two_cases true k rest e f y h one other = one refl h
choice_has_two_cases false k rest e f y h one other = other h

ended_line_is_value : {A : Type 0} (x : A) (n : ℕ) (words : List (List ℕ)) (y : A) → line_ends x n words ≡ Ok y → x ≡ y
ended_line_is_value x n [] y h = ok_determines_value x y h
ended_line_is_value x n (word ∷ words) y h = absurd cc

-- If no word follows, the effect of the line is that of the value that was parsed.
ended_line_has_effect : (x : LineContent) (n : ℕ) (words : List (List ℕ)) (said : LineContent) → line_ends x n words ≡ Ok said
    → effect_of_content said ≡ effect_of_content x
ended_line_has_effect x n words said h = ap effect_of_content (sym (ended_line_is_value x n words said h))

hex_field_is_first_word : (n of : ℕ) (words : List (List ℕ)) (file : List ℕ × List (List ℕ)) → hex_at n of words ≡ Ok file → file.0
    ≡ first_word_bytes words
unfolding hex_at
hex_field_is_first_word n of [] file h = absurd cc
hex_field_is_first_word n of (word ∷ words) file h = read_value_is_there (hex_word_bytes word) _ _ file h (λ x is made. ap (λ (f : List ℕ ×
    List (List ℕ)). f.0)
    (sym (ok_determines_value (x, words) file made)) ∙ ap (λ (o : Option (List ℕ)). unwrap_or o []) (sym is))

offered_file_is_first_word : (given : Option (List ℕ)) (n of : ℕ) (words : List (List ℕ)) (file : List ℕ × List (List ℕ)) →
    offered_file given n of words ≡ Ok file
    → file.0 ≡ file_in given words
unfolding offered_file named_bytes
offered_file_is_first_word given n of [] file h = absurd cc
offered_file_is_first_word given n of (word ∷ words) file h = read_value_is_there (named_bytes given word) _ _ file h (λ x is made.
    ap (λ (f : List ℕ × List (List ℕ)). f.0) (sym (ok_determines_value (x, words) file made))
    ∙ ap (λ (o : Option (List ℕ)). unwrap_or o []) (sym is))

-- Configuration lines have no effect, except for `image`.

ids_line_has_no_effect : (words : List (List ℕ)) (said : LineContent) → ids_content words ≡ Ok said → effect_of_content said ≡ Nothing
unfolding ids_content
ids_line_has_no_effect words said h = bound_result_is_ok (identifier_at 2 4 words) _ said h (λ v iv hv. bound_result_is_ok (identifier_at 3
    4 v.1) _ said hv
    (λ p ip hp. bound_result_is_ok (identifier_at 4 4 p.1) _ said hp (λ d id hd. ended_line_has_effect _ 4 d.1 said hd)))

device_line_has_no_effect : (words : List (List ℕ)) (said : LineContent) → device_content words ≡ Ok said → effect_of_content said ≡ Nothing
unfolding device_content
device_line_has_no_effect words said h = bound_result_is_ok (word_field _ attributes_of_word 2 7 words) _ said h (λ a ia ha.
    bound_result_is_ok (short_at 3 7 a.1) _ said ha
    (λ d id hd. bound_result_is_ok (short_at 4 7 d.1) _ said hd (λ t it ht. bound_result_is_ok (number_field 5 7 t.1) _ said ht
    (λ l il hl. bound_result_is_ok (number_field 6 7 l.1) _ said hl (λ b ib hb. bound_result_is_ok (number_field 7 7 b.1) _ said hb
    (λ m im hm. ended_line_has_effect _ 7 m.1 said hm))))))

unit_line_has_no_effect : (words : List (List ℕ)) (said : LineContent) → unit_content words ≡ Ok said → effect_of_content said ≡ Nothing
unfolding unit_content
unit_line_has_no_effect words said h = bound_result_is_ok (word_field _ unit_of_word 2 2 words) _ said h (λ u iu hu. ended_line_has_effect
    (SetsConfig (SetsUnit u.0)) 2 u.1 said hu)

erase_line_has_no_effect : (words : List (List ℕ)) (said : LineContent) → erase_content words ≡ Ok said → effect_of_content said ≡ Nothing
unfolding erase_content
erase_line_has_no_effect words said h = bound_result_is_ok (word_field _ sector_of 2 2 words) _ said h (λ n is hn. ended_line_has_effect
    (SetsConfig (SetsSector n.0)) 2 n.1 said hn)

pace_line_has_no_effect : (words : List (List ℕ)) (said : LineContent) → pace_content words ≡ Ok said → effect_of_content said ≡ Nothing
unfolding pace_content
pace_line_has_no_effect words said h = bound_result_is_ok (short_at 2 3 words) _ said h (λ e ie he. bound_result_is_ok (short_at 3 3 e.1) _
    said he
    (λ p ip hp. ended_line_has_effect (SetsConfig (SetsPace e.0 p.0)) 3 p.1 said hp))

capacity_line_has_no_effect : (words : List (List ℕ)) (said : LineContent) → capacity_content words ≡ Ok said → effect_of_content said
    ≡ Nothing
unfolding capacity_content
capacity_line_has_no_effect words said h = bound_result_is_ok (word_field _ (count_of 1048576) 2 2 words) _ said h
    (λ n is hn. ended_line_has_effect (SetsConfig (SetsCapacity n.0)) 2 n.1 said hn)

image_line_sets_factory_image : (words : List (List ℕ)) (said : LineContent) → image_content words ≡ Ok said
    → effect_of_content said ≡ FactoryImageEffect (first_word_bytes words)
unfolding image_content
image_line_sets_factory_image words said h = bound_result_is_ok (hex_at 2 2 words) _ said h (λ x is hx. ended_line_has_effect (SetsConfig
    (SetsImage x.0)) 2 x.1 said hx
    ∙ ap FactoryImageEffect (hex_field_is_first_word 2 2 words x is))

check_line_has_no_effect : (words : List (List ℕ)) (said : LineContent) → check_content words ≡ Ok said → effect_of_content said ≡ Nothing
unfolding check_content
check_line_has_no_effect words said h = bound_result_is_ok (hex_at 2 2 words) _ said h (λ x is hx. ended_line_has_effect (SetsConfig
    (SetsCheck x.0)) 2 x.1 said hx)

limits_line_has_no_effect : (words : List (List ℕ)) (said : LineContent) → limits_content words ≡ Ok said → effect_of_content said ≡ Nothing
unfolding limits_content
limits_line_has_no_effect words said h = bound_result_is_ok (number_field 2 3 words) _ said h (λ a ia ha. bound_result_is_ok (short_at 3 3
    a.1) _ said ha
    (λ r ir hr. ended_line_has_effect (SetsLimits a.0 r.0) 3 r.1 said hr))

-- Event lines: an offer and an upload may begin a session, and other events begin none.

offer_line_begins_session : (given : Option (List ℕ)) (purpose : Purpose) (words : List (List ℕ)) (said : LineContent)
    → offer_content given purpose words ≡ Ok said
    → effect_of_content said ≡ Events (Some (BeginningWithOffer (file_in given words)) ∷ [])
unfolding offer_content
offer_line_begins_session given purpose words said h = bound_result_is_ok (offered_file given 2 2 words) _ said h
    (λ x is hx. ended_line_has_effect (Does (Offer purpose x.0)) 2 x.1 said hx
    ∙ ap (λ (file : List ℕ). Events (Some (BeginningWithOffer file) ∷ [])) (offered_file_is_first_word given 2 2 words x is))

time_line_has_one_event : (words : List (List ℕ)) (said : LineContent) → time_of words ≡ Ok said → effect_of_content said
    ≡ Events (None ∷ [])
unfolding time_of
time_line_has_one_event words said h = bound_result_is_ok (number_field 2 2 words) _ said h (λ n is hn. ended_line_has_effect (Does (Time
    n.0)) 2 n.1 said hn)

refuse_line_has_one_event : (words : List (List ℕ)) (said : LineContent) → refuse_content words ≡ Ok said → effect_of_content said
    ≡ Events (None ∷ [])
unfolding refuse_content
refuse_line_has_one_event words said h = bound_result_is_ok (word_field _ objection_of_word 2 2 words) _ said h
    (λ why is hn. ended_line_has_effect (Does (Refuse why.0)) 2 why.1 said hn)

count_field_is_count : (words : List (List ℕ)) (n : ℕ × List (List ℕ)) → word_field Times (count_of 1000000) 3 3 words ≡ Ok n → n.0
    ≡ first_word_number words
unfolding count_of number_at_most
count_field_is_count [] n h = absurd cc
count_field_is_count (word ∷ words) n h =
    read_value_is_there (count_of 1000000 word) _ _ n h (λ x is made. bound_option_is_some (number_at_most
    1000000 word) _ x is
    (λ m im hm. bound_option_is_some (number_of word) _ m im (λ k ik hk. ap (λ (f : ℕ
    × List (List ℕ)). f.0) (sym (ok_determines_value (x, words) n made))
    ∙ (sym (guarded_value_is_itself (nat_le 1 m) m x hm) ∙ (sym (guarded_value_is_itself (nat_le k 1000000) k m hk)
    ∙ ap (λ (o : Option ℕ). unwrap_or o 0) (sym ik))))))

pass_line_has_counted_events : (words : List (List ℕ)) (said : LineContent) → pass_content words ≡ Ok said
    → effect_of_content said ≡ Events (replicate (first_word_number words) None)
unfolding pass_content
pass_line_has_counted_events words said h = bound_result_is_ok (word_field Times (count_of 1000000) 3 3 words) _ said h (λ n is hn.
    ended_line_has_effect _ 3 n.1 said hn
    ∙ ap (λ (times : ℕ). Events (replicate times None)) (count_field_is_count words n is))

slip_line_has_one_event : (words : List (List ℕ)) (said : LineContent) → slip_content words ≡ Ok said → effect_of_content said
    ≡ Events (None ∷ [])
unfolding slip_content
slip_line_has_one_event words said h = bound_result_is_ok (number_field 3 3 words) _ said h (λ n is hn. ended_line_has_effect _ 3 n.1 said
    hn)

harmed_line_has_one_event : (f : Fate) (words : List (List ℕ)) (said : LineContent) → harmed_content f words ≡ Ok said
    → effect_of_content said ≡ Events (None ∷ [])
unfolding harmed_content
harmed_line_has_one_event f words said h = bound_result_is_ok (number_field 3 4 words) _ said h (λ n is hn. bound_result_is_ok (hex_at 4 4
    n.1) _ said hn
    (λ t it ht. ended_line_has_effect _ 4 t.1 said ht))

until_line_has_some_passes : (words : List (List ℕ)) (said : LineContent) → until_content words ≡ Ok said → effect_of_content said
    ≡ SomePassesEffect
unfolding until_content
until_line_has_some_passes words said h = read_value_is_there (first_word words) _ _ said h (λ w is hw. ended_line_has_effect GoesOn 3 w.1
    said (ok_choice_is_first _ _ _ said hw))

-- Effect of a line by its first word.

-- A line has the effect `brings` if it has that effect when its first word is `s`, and when its first word is one of the remaining
-- keywords.
first_word_decides : {K : Type 0} (brings : List (List ℕ) → LineEffect) (s : List ℕ) (k : K) (rest : Option K) (e : LineFault)
    (f : K → Result LineContent LineFault) (word : List ℕ) (words : List (List ℕ)) (said : LineContent)
    → (ok_or (cond (bytes_eq word s) (Some k) rest) e >>= f) ≡ Ok said → (f k ≡ Ok said → effect_of_content said ≡ brings (s ∷ words))
    → ((ok_or rest e >>= f) ≡ Ok said → effect_of_content said ≡ brings (word ∷ words)) → effect_of_content said ≡ brings (word ∷ words)
first_word_decides brings s k rest e f word words said h one other = choice_has_two_cases (bytes_eq word s) k rest e f said h
    (λ is made. subst (λ (w : List ℕ). effect_of_content said ≡ brings (w ∷ words)) (sym ((bytes_eq-Decides word s).0 is)) (one made)) other

go_line_has_effect : (words : List (List ℕ)) (said : LineContent) → go_content words ≡ Ok said → effect_of_content said ≡ effect_of_go words
unfolding go_content fate_keyword_of
go_line_has_effect [] said h = absurd cc
go_line_has_effect (word ∷ words) said h =
    first_word_decides effect_of_go (codes "pass") _ _ _ _ word words said h (pass_line_has_counted_events words said) (λ h.
    first_word_decides effect_of_go (codes "lostout") _ _ _ _ word words said h (ended_line_has_effect _ 2 words said) (λ h.
    first_word_decides effect_of_go (codes "lostback") _ _ _ _ word words said h (ended_line_has_effect _ 2 words said) (λ h.
    first_word_decides effect_of_go (codes "twice") _ _ _ _ word words said h (ended_line_has_effect _ 2 words said) (λ h.
    first_word_decides effect_of_go (codes "twicelostback") _ _ _ _ word words said h (ended_line_has_effect _ 2 words said) (λ h.
    first_word_decides effect_of_go (codes "slip") _ _ _ _ word words said h (slip_line_has_one_event words said) (λ h.
    first_word_decides effect_of_go (codes "cut") _ _ _ _ word words said h (harmed_line_has_one_event _ words said) (λ h.
    first_word_decides effect_of_go (codes "fail") _ _ _ _ word words said h (harmed_line_has_one_event _ words said) (λ h.
    first_word_decides effect_of_go (codes "lie") _ _ _ _ word words said h (harmed_line_has_one_event _ words said) (λ h.
    first_word_decides effect_of_go (codes "until") _ _ _ _ word words said h (until_line_has_some_passes words said) (λ h. absurd
    cc))))))))))

ok_value_unless_fault : {A : Type 0} (t : Bool) (e : LineFault) (x y : A) → cond t (Err e) (Ok x) ≡ Ok y → x ≡ y
ok_value_unless_fault true e x y h = absurd cc
ok_value_unless_fault false e x y h = ok_determines_value x y h

expect_line_has_no_events : (line : List ℕ) (said : LineContent) → expect_content line ≡ Ok said → effect_of_content said ≡ Events []
unfolding expect_content
expect_line_has_no_events line said h = read_value_is_there (text_behind line) _ _ said h
    (λ text is made. ap effect_of_content (sym (ok_value_unless_fault (length text == 0) _ (ExpectsText text) said made)))

keyword_line_has_effect : (given : Option (List ℕ)) (line word : List ℕ) (words : List (List ℕ)) (said : LineContent)
    → (ok_or (keyword_of word) Keyword >>= λ k. by_keyword given k line words) ≡ Ok said
    → effect_of_content said ≡ effect_of_words given (word ∷ words)
unfolding keyword_of later_keyword_of
keyword_line_has_effect given line word words said h =
    first_word_decides (effect_of_words given) (codes "ids") _ _ _ _ word words said h (ids_line_has_no_effect words said) (λ h.
    first_word_decides (effect_of_words given) (codes "device") _ _ _ _ word words said h (device_line_has_no_effect words said) (λ h.
    first_word_decides (effect_of_words given) (codes "unit") _ _ _ _ word words said h (unit_line_has_no_effect words said) (λ h.
    first_word_decides (effect_of_words given) (codes "erase") _ _ _ _ word words said h (erase_line_has_no_effect words said) (λ h.
    first_word_decides (effect_of_words given) (codes "pace") _ _ _ _ word words said h (pace_line_has_no_effect words said) (λ h.
    first_word_decides (effect_of_words given) (codes "capacity") _ _ _ _ word words said h (capacity_line_has_no_effect words said) (λ h.
    first_word_decides (effect_of_words given) (codes "image") _ _ _ _ word words said h (image_line_sets_factory_image words said) (λ h.
    first_word_decides (effect_of_words given) (codes "limits") _ _ _ _ word words said h (limits_line_has_no_effect words said) (λ h.
    first_word_decides (effect_of_words given) (codes "offer") _ _ _ _ word words said h (offer_line_begins_session given Install words
    said) (λ h.
    first_word_decides (effect_of_words given) (codes "verify") _ _ _ _ word words said h (offer_line_begins_session given Verify words
    said) (λ h.
    first_word_decides (effect_of_words given) (codes "upload") _ _ _ _ word words said h (ended_line_has_effect (Does Upload) 1 words
    said) (λ h.
    first_word_decides (effect_of_words given) (codes "abort") _ _ _ _ word words said h (ended_line_has_effect (Does Abort) 1 words said)
    (λ h.
    first_word_decides (effect_of_words given) (codes "go") _ _ _ _ word words said h (go_line_has_effect words said) (λ h.
    first_word_decides (effect_of_words given) (codes "time") _ _ _ _ word words said h (time_line_has_one_event words said) (λ h.
    first_word_decides (effect_of_words given) (codes "reset") _ _ _ _ word words said h (ended_line_has_effect (Does Reset) 1 words said)
    (λ h.
    first_word_decides (effect_of_words given) (codes "cut") _ _ _ _ word words said h (ended_line_has_effect (Does Cut) 1 words said) (λ
    h.
    first_word_decides (effect_of_words given) (codes "show") _ _ _ _ word words said h (ended_line_has_effect Show 1 words said) (λ h.
    first_word_decides (effect_of_words given) (codes "expect") _ _ _ _ word words said h (expect_line_has_no_events line said) (λ h.
    first_word_decides (effect_of_words given) (codes "check") _ _ _ _ word words said h (check_line_has_no_effect words said) (λ h.
    first_word_decides (effect_of_words given) (codes "refuse") _ _ _ _ word words said h (refuse_line_has_one_event words said) (λ h.
    absurd cc))))))))))))))))))))

-- A comment has no effect.
comment_line_has_no_effect : (given : Option (List ℕ)) (word : List ℕ) (words : List (List ℕ)) → is_comment word ≡ true
    → effect_of_words given (word ∷ words) ≡ Nothing
comment_line_has_no_effect given [] words h = absurd cc
comment_line_has_no_effect given (byte ∷ bytes) words h =
    let e : byte ≡ 35 = grind (arith, nat_tests, h) in
    ap (λ (b : ℕ). effect_of_words given ((b ∷ bytes) ∷ words)) e

first_word_has_effect : (given : Option (List ℕ)) (c : Bool) (line word : List ℕ) (words : List (List ℕ)) (said : LineContent) →
    is_comment word ≡ c
    → cond c (Ok Blank) (ok_or (keyword_of word) Keyword >>= λ k. by_keyword given k line words) ≡ Ok said
    → effect_of_content said ≡ effect_of_words given (word ∷ words)
first_word_has_effect given true line word words said is h = ap effect_of_content (sym (ok_determines_value Blank said h))
    ∙ sym (comment_line_has_no_effect given word words is)
first_word_has_effect given false line word words said is h = keyword_line_has_effect given line word words said h

line_words_have_effect : (given : Option (List ℕ)) (line : List ℕ) (words : List (List ℕ)) (said : LineContent) →
    line_meaning given line words ≡ Ok said
    → effect_of_content said ≡ effect_of_words given words
line_words_have_effect given line [] said h = ap effect_of_content (sym (ok_determines_value Blank said h))
line_words_have_effect given line (word ∷ words) said h = first_word_has_effect given (is_comment word) line word words said refl h

short_line_is_ok : (t : Bool) (x : Result LineContent LineFault) (said : LineContent) → ok_of (cond t x (Err Long)) ≡ Some said → x
    ≡ Ok said
short_line_is_ok true (Ok y) said h = ap (λ (o : Option LineContent). Ok (unwrap_or o y)) h
short_line_is_ok true (Err e) said h = absurd cc
short_line_is_ok false x said h = absurd cc

-- The effect of a line of the language is the effect of its meaning.
pub line_effect_is_content_effect : (given : Option (List ℕ)) (line : List ℕ) (said : LineContent) → line_of given line ≡ Some said
    → effect_of_line given line ≡ effect_of_content said
unfolding line_of read_line
line_effect_is_content_effect given line said h =
    sym (line_words_have_effect given line (words_of line) said (short_line_is_ok (nat_le (length line) 65536) (line_meaning given line
    (words_of line)) said h))
