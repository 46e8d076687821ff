-- The starred examples of the ply sheet hold, and the table that `tableread` is given: what each call says is computed. Assumes nothing.
use Prim.Native.Nat.{ℕ}
use mathlib.Core.Path.{refl}
use mathlib.Core.List.{List, [], ◌∷◌}
use lib.ListN.{replicate}
use Rattle.refusal.specs.Said.{ok, no}
use Rattle.refusal.specs.Lists as lists
use Rattle.refusal.specs.Lists.{some, before, same_list, first_equal, each}
use Rattle.run_ranges.specs.Ranges.{joined, ranges_from, up_to_four, in_ranges}
use Rattle.run_class.specs.Byte.{up_from}
use Rattle.run_shape.specs.Shape.{held}
use Rattle.run_shape.specs.Classify.{exits_from, by_ranges, by_exits, classified}
use Rattle.run_shape.specs.Scan.{stops, scan_of}
use Rattle.run_shape.specs.Words.{or_field, short_run, read_at}
use Rattle.word_reader.specs.Parse.{and_then, word, fields, block, many, section, both}
use Rattle.word_reader.specs.Records.{any, target, start}
use Rattle.word_layout.specs.Layout.{place_of, closed, layout_of}
use Rattle.rule_words.specs.Rules.{every_from, walk, every, every_in, good, none_or, present, state_good, targets}
use Rattle.rule_words.specs.Rules.{classified_words, stands, run_good, both_good, wide_good, escape_good, first_broken}
use Rattle.buffer.specs.Over.{padded}
use Rattle.word_layout.specs.Limits.{laid_out}
use Rattle.room_decode.specs.Decode.{decoded_from, judged}
use Rattle.list_transitions.specs.Transition.{any_has, holds, hold_at, orderly, in_order}
use Rattle.list_transitions.specs.Intervals.{clip, clips, gaps, intervals, all_intervals, total}
use Rattle.list_transitions.specs.Bytes.{size_at, number_at, pairs_at, shape_of, trans_of}
use Rattle.list_transitions.specs.Read as of_list
use Rattle.list_transitions.specs.Read.{body_at, record_at, more, parse_from}
use Rattle.list_segments.specs.Segments.{insert, cut_spans, cut_all, cuts_of, starts_from, segments_from}
use Rattle.list_segments.specs.Segments as cuts
use Rattle.list_segments.specs.Answer as of-segments
use Rattle.list_segments.specs.Answer.{parse_for, segments_in}
use Rattle.list_masks.specs.Masks.{word_of, pack, mask_of, masks_at, flat, is_zero, add_new, distinct}
use Rattle.list_masks.specs.Answer as of-masks
use Rattle.list_masks.specs.Answer.{parse_masks, parse_distinct, masks_in}
use Rattle.law_lookups.specs.Looks.{goal_at}
use Rattle.law_rows.specs.Row.{row_from, row_over, join_to, join, part_from, values}
use Rattle.law_rows.specs.Build.{given, row_of}
use Rattle.row_build.specs.Answer as of-rows
use Rattle.row_build.specs.Answer.{with_rows, ascii_in, wide_in}
use Rattle.lexer_dfa.specs.Sheet.{◌says◌, transitions, Right, row_on, sheet}

pub sheet_right : Right sheet
unfolding row_on up_from some before joined ranges_from up_to_four in_ranges held exits_from by_ranges by_exits classified stops scan_of lists.every
    or_field short_run read_at fields any target start block word and_then many section both place_of closed layout_of laid_out decoded_from judged every_from
    walk every every_in good none_or present state_good targets classified_words stands run_good both_good wide_good escape_good first_broken padded any_has holds
    hold_at orderly in_order clip clips gaps intervals all_intervals size_at number_at pairs_at shape_of trans_of body_at record_at more of_list.onward parse_from insert
    cut_spans cut_all cuts_of cuts.starts starts_from cuts.segments segments_from of-segments.counted parse_for segments_in word_of pack mask_of masks_at flat is_zero
    same_list first_equal add_new distinct of-masks.counted parse_masks parse_distinct masks_in each goal_at row_from row_over join_to join part_from values given row_of
    of-rows.counted with_rows ascii_in wide_in
sheet_right = (refl, (refl, (refl, (refl, (refl, (refl, (refl, (refl, (refl, (refl, (refl, (refl, (refl, (refl, (refl, (refl, (refl, tt)))))))))))))))))

-- "256 transitions pass; 257: 4": so many wildcards
abbrev pub wildcards : ℕ → List ℕ
wildcards n = each (λ tag. tag ∷ 0 ∷ 0 ∷ []) (replicate n 5)

pub limits_right : Right ((transitions (wildcards 256) says ok (256 ∷ 256 ∷ [])) ∷ (transitions (wildcards 257) says no 4 768) ∷ [])
unfolding each orderly in_order clip intervals total size_at shape_of trans_of body_at record_at more of_list.onward parse_from of_list.counted
limits_right = (refl, (refl, tt))
