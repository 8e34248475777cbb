mod LineTexts
mod Replies
