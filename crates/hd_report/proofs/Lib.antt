mod TextRuns
mod ListedTexts
mod VolumeRuns
