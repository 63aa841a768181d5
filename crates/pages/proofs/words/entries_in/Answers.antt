use Rattle.std.proofs.Common.{rules, ◌≡◌, ◌*◌, ◌<◌, ◌∙◌, take, drop, Some, arith, ap, length, length-drop}
use Rattle.std.proofs.lemmas.List.{take_all}
use Rattle.std.specs.List.{slice_get}
use Rattle.entries.specs.declared.entry.Claim.TheVariants.{Reserved}
use Rattle.entries.specs.declared.entry.Entry.{Entry}
use Rattle.pages.specs.Words.{entry_in, entries_in}
use Rattle.pages.proofs.Made.{made_at}
use Rattle.pages.proofs.Reading.{chunk_at, get_in_front, entries_read, four_words}
use Rattle.pages.proofs.words.entries_in.Goals as goal

pub returns-clause-read : goal.returns-clause-read
returns-clause-read c =
    let ws = take 128 (drop 4 c.args.words.now) in
    let rest : ws ≡ drop 4 c.args.words.now = take_all 128 (drop 4 c.args.words.now) (simp length-drop (omega (arith, c.told-words))) in
    let made = c.from_fn.ensures.items in
    let blank : Entry = record { number = 0; holder = 0; claim = Reserved } in
    entries_read c.args.count _ ws blank (omega arith)
    (λ i h. made_at _ _ (λ i y. i < c.args.count → y ≡ entry_in (drop (4 * i) ws))
    (λ p q i y e k. let met = k.met in (
      search rules,
      λ h.
          let is : slice_get (take c.args.count c.as_chunks.result.0.now) i ≡ Some (take 4 (drop (4 * i) ws)) =
          get_in_front _ c.args.count i h ∙ ap (λ l. slice_get l i) c.as_chunks.ensures.front ∙ chunk_at 4 _ ws i (let long = ap length rest in let less = length-drop 4 c.args.words.now in omega (arith, c.told-words)) in
          let read : y ≡ entry_in (take 4 (drop (4 * i) ws)) = search rules in
          read ∙ four_words (drop (4 * i) ws),
    ))
    _ blank _ made i (omega arith) h) ∙
    ap (entries_in c.args.count) rest
