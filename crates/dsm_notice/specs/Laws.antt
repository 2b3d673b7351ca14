-- What posting depends on.
use Rattle.std.specs.Prelude.{◌≡◌, ◌≢◌, ◌↔◌, ℕ, List, count_by}
use Rattle.dsm_words.specs.declared.item.Item.TheVariants.{Dir, Global}
use Rattle.dsm_words.specs.Place.{Lay}
use Rattle.dsm_words.specs.Pages.{group_of, bit_of}
use Rattle.dsm_words.specs.Script.{Act, Get, Or, Makes}
use Rattle.dsm_words.specs.Answered.{Gave, WasMade}
use Rattle.dsm_notice.specs.Notices.{post_script}
use Rattle.dsm_notice.specs.Posting.{is_or}

-- the result is how many Or's were made
abbrev pub CountsTheTold : Type 0
CountsTheTold = (l : Lay) (n g h : ℕ) (xs : List (Act × ℕ)) (told : ℕ) → Makes (post_script l n g h) xs told → told ≡ count_by (λ x. is_or x.0) xs

-- node m is told exactly where it is neither the own node nor the home, and its directory word was not 0
abbrev pub TellsTheOthers : Type 0
TellsTheOthers = (l : Lay) (n g h : ℕ) (xs : List (Act × ℕ)) (told : ℕ) → Makes (post_script l n g h) xs told → (m : ℕ) → WasMade xs (Or (Global m n (group_of g)) (bit_of g)) ↔ ((m ≢ n) × (m ≢ h) × ((v : ℕ) × (v ≢ 0) × Gave xs (Get (Dir m g)) v))
