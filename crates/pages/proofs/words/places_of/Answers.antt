use Rattle.std.proofs.Common.{rules, ◌≡◌, []}
use Rattle.std.specs.List.{slice_get}
use Rattle.entries.specs.Sheet.{sheet}
use Rattle.pages.specs.Words.{place_words, FitsEntry}
use Rattle.pages.proofs.Made.{made_at}
use Rattle.pages.proofs.Writing.{places_written}
use Rattle.pages.proofs.words.places_of.Goals as goal

pub returns : goal.returns
returns c =
    let es = (sheet c.args.page.now).entries in
    let made = c.from_fn.ensures.items in
    let all = made_at _ _ (λ i y. (y ≡ place_words (slice_get es i)) × FitsEntry (slice_get es i)) (λ p q i y e k. let met = k.met in (search rules, (search rules, search rules))) _ [] 32 made in
    record { words = places_written 32 es _ made.long (λ i h. (all i h).0); fits = λ i h. (all i h).1 }
