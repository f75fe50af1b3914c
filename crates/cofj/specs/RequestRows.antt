-- Examples of document 02's requests as rows of the table (Rows): of 2026-01 with a second text, of 2026-02 with numbers, of 2026-03 with inherited methods, of 2026-04 with values that are compared. Proved in proofs/Cases.
use Rattle.std.specs.Prelude.{List, [], ◌∷◌, ◌++◌}
use Rattle.cofj.specs.Calls.{checked, trial}
use Rattle.cofj.specs.Rows.{Row, row, row_with, case_rows}

-- ---- with a second text
-- a ring of classes 2 and 3, cut as four parts, and one part that is not reached; main selects the field
abbrev pub row_ring_cut : Row
row_ring_cut = row_with checked 1000 "01010000\n010201010100\n010301010100\n04020043004200\n" "0500020101\n0501030102\n0502020103\n0503030100\n05040100\n" "08000100\n0500030101\n0501020100\n" 1000

-- the same ring, cut as two parts
abbrev pub row_ring : Row
row_ring = row_with checked 1000 "01010000\n010201010100\n010301010100\n04020043004200\n" "0500020101\n0501030100\n" "08000100\n0500030101\n0501020100\n" 1000

-- the ring that comes in equals the one that the program makes, so that the call is met again
abbrev pub row_met : Row
row_met = row_with checked 4 "01010000\n010201010100\n01030000\n02030102000202004502014401004041\n02030201030103020100010044020240420142004201\n0401004402024503004200440100450300\n" "0500020101\n0501020102\n0502020100\n" "08000103\n0500020100\n" 0

abbrev pub row_met_3 : Row
row_met_3 = row_with checked 3 "01010000\n010201010100\n01030000\n02030102000202004502014401004041\n02030201030103020100010044020240420142004201\n0401004402024503004200440100450300\n" "0500020101\n0501020102\n0502020100\n" "08000103\n0702\n" 0

-- FF at a minus place, and at a plus place
abbrev pub row_minus : Row
row_minus = row_with checked 1000 "010100010003\n0401004200\n" "05000101FF\n" "08000100\n05000101FF\n" 1000

abbrev pub row_plus : Row
row_plus = row_with checked 1000 "010100010000\n0401004200\n" "05000101FF\n" "080F\n" 1000

-- on trial too
abbrev pub row_plus_trial : Row
row_plus_trial = row_with trial 1000 "010100010000\n0401004200\n" "05000101FF\n" "080F\n" 1000

-- parts that are not reached need not fit
abbrev pub row_unreached : Row
row_unreached = row_with checked 1000 "010100010000\n0401004200\n" "0500010100\n0501010102\n05020000\n" "08000100\n0500010100\n" 1000

-- a field names no part
abbrev pub row_no_part : Row
row_no_part = row_with checked 1000 "010100010000\n0401004200\n" "0500010101\n" "080E\n" 1000

-- one part, held at two places: it must fit both
abbrev pub row_two_places : Row
row_two_places = row_with checked 1000 "01010000\n01020100\n0103000201000200\n0403004200\n" "050003020101\n05010200\n" "08000300\n050003020101\n05010200\n" 1000

abbrev pub row_one_place : Row
row_one_place = row_with checked 1000 "01010000\n01020100\n0103000201000200\n0403004200\n" "050003020101\n05010100\n" "080F\n" 1000

-- an untyped main without the second text that it needs: 7 comes first, and on trial 14
abbrev pub row_untyped_checked : Row
row_untyped_checked = row checked 1000 "010100010103\n04010040\n" "0807\n" 1000

abbrev pub row_untyped : Row
row_untyped = row_with trial 1000 "010100010103\n04010040\n" "" "080E\n" 1000

-- ---- numbers
-- a number
abbrev pub row_number : Row
row_number = row checked 1000 "0346002A\n" "0800FE00\n09002A\n" 1000

-- whose bytes look like a sign and a class
abbrev pub row_number_bytes : Row
row_number_bytes = row checked 1000 "034645FF\n" "0800FE00\n0945FF\n" 1000

-- a sum, and one above the largest number
abbrev pub row_sum : Row
row_sum = row checked 1000 "03474600FF460001\n" "0800FE00\n090100\n" 1000

abbrev pub row_overflow : Row
row_overflow = row checked 1000 "034746FFFF460001\n" "0800FE00\n0705\n" 1000

-- a difference that would be below 0
abbrev pub row_difference : Row
row_difference = row checked 1000 "0348460003460005\n" "0800FE00\n090000\n" 1000

-- two objects with equal numbers are one, with different ones two
abbrev pub row_equal_numbers : Row
row_equal_numbers = row checked 1000 "01010001FE00\n0102000200000000\n03450202450101460005450101460005\n" "08000200\n050002020101\n05010101FE0005\n" 1000

abbrev pub row_other_numbers : Row
row_other_numbers = row checked 1000 "01010001FE00\n0102000200000000\n03450202450101460005450101460006\n" "08000200\n050002020102\n05010101FE0005\n05020101FE0006\n" 1000

-- 4 + 3 + 2 + 1
abbrev pub row_count : Row
row_count = row checked 30 "01010000\n020101FE00FE0001FE0049420047420044010140484200460001460000460000\n03440101450100460004\n" "0800FE00\n09000A\n" 25

-- a ring 0, 1, 0, 1: calls met again by equal numbers
abbrev pub row_ring_of_numbers : Row
row_ring_of_numbers = row checked 10 "01010000\n01020002FE000203\n0201010200020201FE0045020242004401014048460001420041\n03440101450100460000\n" "08000200\n05000202FE000001\n05010202FE000100\n" 7

-- the type is the wider of the branches, and only the taken one is run
abbrev pub row_choose_first : Row
row_choose_first = row checked 1000 "01010000\n01020100\n0349460001450100450200\n" "08000100\n05000100\n" 1000

abbrev pub row_choose_second : Row
row_choose_second = row checked 1000 "01010000\n01020100\n0349460000450100450200\n" "08000100\n05000200\n" 1000

abbrev pub row_choose_neither : Row
row_choose_neither = row checked 1000 "01010000\n01020000\n0349460001450100450200\n" "0807\n" 1000

-- a number is no object, on trial it is stored as one
abbrev pub row_no_object : Row
row_no_object = row checked 1000 "010100010000\n03450101460005\n" "0807\n" 1000

abbrev pub row_no_object_trial : Row
row_no_object_trial = row trial 1000 "010100010000\n03450101460005\n" "05000101FE0005\n" 1000

-- a sum is judged after both operands
abbrev pub row_sum_first : Row
row_sum_first = row checked 1 "01010000\n020101FE00FE000046FFFF460000\n0347440100450100440100450100\n" "0800FE00\n0702\n" 0

abbrev pub row_sum_both : Row
row_sum_both = row checked 2 "01010000\n020101FE00FE000046FFFF460000\n0347440100450100440100450100\n" "0800FE00\n0705\n" 0

-- class FE is below no class, whatever the table has
abbrev pub row_thirteen : Row
row_thirteen = row checked 1000 "01010000\n01020000\n01030000\n01040000\n01050000\n01060000\n01070000\n01080000\n01090000\n010A0000\n010B0000\n010C0000\n010D0000\n010E00010100\n020DD00D000D00004040\n03450E01460005\n" "0807\n" 1000

-- a number in a second text; one without its bytes; FF, a part at its place; a number at the place of a part; a part of class FE
abbrev pub row_given_number : Row
row_given_number = row_with checked 1000 "01010002FE000103\n04010043004200\n" "05000102FE0102FF\n" "0800FE00\n090102\n" 1000

abbrev pub row_given_cut : Row
row_given_cut = row_with checked 1000 "01010002FE000103\n04010043004200\n" "05000102FE01FF\n" "080E\n" 1000

abbrev pub row_given_none : Row
row_given_none = row_with checked 1000 "01010002FE000103\n04010043004200\n" "05000102FFFF\n" "080F\n" 1000

abbrev pub row_given_part : Row
row_given_part = row_with checked 1000 "01010002FE000103\n04010043004200\n" "0500010200FF\n" "080F\n" 1000

abbrev pub row_given_two : Row
row_given_two = row_with checked 1000 "01010002FE000103\n04010043004200\n" "05000102FE0001FE0002\n" "080F\n" 1000

abbrev pub row_given_class : Row
row_given_class = row_with checked 1000 "01010002FE000103\n04010043004200\n" "0500FE00\n" "080E\n" 1000

-- methods are found in the class or the nearest above it: the method 2 of class 2, called on a class 3 and on a class 2, calls the method 1 of class 3 and of class 1
abbrev pub row_nearest : Row
row_nearest = row checked 1000 "01010000\n01020100\n01030200\n01040000\n01050000\n01060000\n0201010000000000450400450400\n020202000000000044010040450500\n0203010000000000450600450600\n03440200450300\n" "08000000\n05000600\n" 998

abbrev pub row_nearest_above : Row
row_nearest_above = row checked 1000 "01010000\n01020100\n01030200\n01040000\n01050000\n01060000\n0201010000000000450400450400\n020202000000000044010040450500\n0203010000000000450600450600\n03440200450200\n" "08000000\n05000400\n" 998

-- an override two classes below
abbrev pub row_override_gap : Row
row_override_gap = row checked 1000 "01010000\n01020100\n01030200\n02010101000100004040\n02030101000103004040\n03450000\n" "0805\n" 1000

-- ---- values that are compared: m(x, y) calls m(y, x), which is met again at once if x and y unfold to the same tree, and else the call after it
-- a ring of two, z, and new M(z.f), which is equal to it
abbrev pub row_equal : Row
row_equal = row_with checked 1000 "01010000\n010201010100\n010301010100\n01040000\n02040101030103020100010044010240420142004201\n040300440102450400420045030143004200\n" "0500030101\n0501020100\n" "08000103\n0500030101\n0501020100\n" 998

abbrev pub row_equal_1 : Row
row_equal_1 = row_with checked 1 "01010000\n010201010100\n010301010100\n01040000\n02040101030103020100010044010240420142004201\n040300440102450400420045030143004200\n" "0500030101\n0501020100\n" "08000103\n0702\n" 0

-- z and new M(z), which is not
abbrev pub row_other : Row
row_other = row_with checked 1000 "01010000\n010201010100\n010301010100\n01040000\n02040101030103020100010044010240420142004201\n04030044010245040042004503014200\n" "0500030101\n0501020100\n" "08000103\n0500030101\n0501030102\n0502020101\n" 997

abbrev pub row_other_2 : Row
row_other_2 = row_with checked 2 "01010000\n010201010100\n010301010100\n01040000\n02040101030103020100010044010240420142004201\n04030044010245040042004503014200\n" "0500030101\n0501020100\n" "08000103\n0702\n" 0

-- alike but for one number
abbrev pub row_number_differs : Row
row_number_differs = row_with checked 1000 "01010002FE000103\n01020000\n02020101030103020100010044010240420142004201\n0401004401024502004200450102474300420046000143014200\n" "05000102FE000501\n05010102FE000600\n" "08000103\n05000102FE000601\n05010102FE000602\n05020102FE000501\n" 997

abbrev pub request_rows : List Row
request_rows = row_ring_cut ∷ row_ring ∷ row_met ∷ row_met_3 ∷ row_minus ∷ row_plus ∷ row_plus_trial ∷ row_unreached ∷ row_no_part
    ∷ row_two_places ∷ row_one_place ∷ row_untyped_checked ∷ row_untyped ∷ row_number ∷ row_number_bytes ∷ row_sum ∷ row_overflow ∷ row_difference
    ∷ row_equal_numbers ∷ row_other_numbers ∷ row_count ∷ row_ring_of_numbers ∷ row_choose_first ∷ row_choose_second ∷ row_choose_neither ∷ row_no_object ∷ row_no_object_trial
    ∷ row_sum_first ∷ row_sum_both ∷ row_thirteen ∷ row_given_number ∷ row_given_cut ∷ row_given_none ∷ row_given_part ∷ row_given_two ∷ row_given_class
    ∷ row_nearest ∷ row_nearest_above ∷ row_override_gap ∷ row_equal ∷ row_equal_1 ∷ row_other ∷ row_other_2 ∷ row_number_differs ∷ []

-- the whole table
abbrev pub rows : List Row
rows = case_rows ++ request_rows
