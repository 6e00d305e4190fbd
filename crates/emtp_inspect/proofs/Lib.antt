mod GivenLines
mod Texts
